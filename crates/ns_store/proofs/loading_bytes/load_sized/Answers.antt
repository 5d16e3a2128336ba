use Rattle.std.proofs.Common.{◌∙◌, ◌≡◌, ap, sym, subst}
use Rattle.std.specs.Prelude.{Some}
use Rattle.base_disk.specs.Files.{Files}
use Rattle.ns_store.specs.Names.{Itself, Digest, name_of}
use Rattle.ns_store.specs.Answers.{IsStoredIn}
use Rattle.ns_store.proofs.LoadLaws.{judged, bad_digest}
use Rattle.ns_store.proofs.loading_bytes.load_sized.Goals as goal

pub returns-in_ok-bytes-in-Digest-clause-loaded : goal.returns-in_ok-bytes-in-Digest-clause-loaded
returns-in_ok-bytes-in-Digest-clause-loaded g c = λ t.
    let t1 = c.read_stored.ensures.call.tells.0 t in
    let seen0 = (g.D.DiskModel.view c.args.disk.now).seen in
    let stored = subst (IsStoredIn c.args.names.now (seen0 (name_of c.args.names.now Digest))) c.in-Digest.is (c.in_ok-stored.ensures.stored t) in
    let whole : seen0 (name_of c.args.names.now Itself) ≡ Some c.in_ok-bytes-in-Digest.bytes.items =
    ap (λ (f : Files). f (name_of c.args.names.now Itself)) (sym (c.read_stored.ensures.disk t).keeps.seen)
    ∙ ap (g.D.DiskModel.view c.read_stored.new.disk).seen (sym c.itself.ensures) ∙ c.in_ok-bytes-in-Digest.ensures.bytes t1 in
    judged c.args.names.now _ _ c.in_ok-bytes-in-Digest.bytes.items stored.0 c.in-Digest.stored c.judge.result whole stored.1 stored.2 c.judge.ensures

pub returns-in-Bad-clause-loaded : goal.returns-in-Bad-clause-loaded
returns-in-Bad-clause-loaded g c = λ t.
    let seen0 = (g.D.DiskModel.view c.args.disk.now).seen in
    let stored = subst (IsStoredIn c.args.names.now (seen0 (name_of c.args.names.now Digest))) c.in-Bad.is (c.in_ok-stored.ensures.stored t) in
    bad_digest c.args.names.now _ _ c.args.size stored.0 (c.requires t) stored.1 stored.2
