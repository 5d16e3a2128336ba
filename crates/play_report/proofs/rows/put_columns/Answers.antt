use Rattle.std.proofs.Common.{ℕ, List, [], ◌∷◌, ◌++◌, decimal, append_assoc, sym, ap, ◌∙◌}
use Rattle.std.specs.List.{flat_map}
use Rattle.std.proofs.lemmas.Grind.{flat_map-append}
use Rattle.list_text.specs.Texts.{quota_text, tabbed}
use Rattle.play_report.proofs.TakerLaws.{three}
use Rattle.play_report.proofs.rows.put_columns.Goals as goal

pub returns : goal.returns
returns g c =
    let k = c.args.columns.now in
    let numbers : List (List ℕ) = decimal k.replication ∷ decimal k.mtime ∷ decimal k.atime ∷ decimal k.block_size ∷ decimal k.block_count ∷ [] in
    let owners : List (List ℕ) = decimal k.size ∷ quota_text k.names ∷ quota_text k.space ∷ k.permission ∷ k.user.now ∷ k.group.now ∷ [] in
    three g.T.Taker.adds g.met.T.Taker.adds_more _ _ _ _ _ _ _ _ c.put.ensures c.put_counts.ensures c.put_owners.ensures
    (append_assoc k.path.now (flat_map tabbed numbers) (flat_map tabbed owners) ∙ ap (λ (t : List ℕ). k.path.now ++ t) (sym (flat_map-append tabbed numbers owners)))
