use Rattle.std.proofs.Common.{◌≡◌, ◌∙◌, ◌+◌, ◌-◌, ◌++◌, ℕ, List, ap, sym, arith, rules, take, drop, length, replicate, append_assoc}
use Rattle.std.specs.Prelude.{min}
use Rattle.std.proofs.lemmas.List.{drop-drop}
use Rattle.base_disk.proofs.Fills.{filled_is, filled_past}
use Rattle.base_disk.proofs.change.fill.Goals as goal

pub returns-then-at-bytes : goal.returns-then-at-bytes
returns-then-at-bytes c =
    let k : ℕ = c.min.result in
    let xs : List ℕ = c.args.bytes.now in
    let is : k ≡ min c.args.len (length xs - c.args.at) = search rules in
    let e : (c.args.at + k) - c.args.at ≡ k = omega arith in
    let mid : c.fill.new.self ≡ replicate k c.args.byte = search rules in
    ap (λ (n : ℕ). take c.args.at xs ++ (c.fill.new.self ++ drop n (drop c.args.at xs))) e
    ∙ ap (λ (l : List ℕ). take c.args.at xs ++ (l ++ drop k (drop c.args.at xs))) mid
    ∙ ap (λ (l : List ℕ). take c.args.at xs ++ (replicate k c.args.byte ++ l)) (drop-drop k c.args.at xs)
    ∙ sym (append_assoc (take c.args.at xs) (replicate k c.args.byte) (drop (c.args.at + k) xs))
    ∙ filled_is c.args.byte c.args.at c.args.len k xs is

pub returns-else-at-bytes : goal.returns-else-at-bytes
returns-else-at-bytes c = sym (filled_past c.args.byte c.args.at c.args.len c.args.bytes.now (omega arith))
