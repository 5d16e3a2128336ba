use Rattle.std.proofs.Common.{ℕ, List, [], ◌≡◌, ◌++◌, sym, subst, ◌∙◌, append-nil}
use Rattle.std.specs.Prelude.{OnOk}
use Rattle.std.specs.Io.KnownBytes.{Appends}
use Rattle.base_outside.specs.Whole.{TakesFront}
use Rattle.qj_cli.proofs.WriteLaws.{wrote}
use Rattle.qj_cli.proofs.written.Written+K+Buffer.send.Goals as goal

pub returns-clause-gives : goal.returns-clause-gives
returns-clause-gives g c =
    let held = c.args.self.now.buffer in
    let before = g.K.Sink.taken c.args.self.now.sink.now in
    let now = g.K.Sink.taken c.write_all.new.sink in
    let e : c.as_slice.result.now ≡ held ++ [] = c.as_slice.ensures ∙ sym (append-nil held) in
    wrote before now _ _ held c.clear.new.self [] _ _ c.write_all.result c.requires c.is_err-self.ensures.value c.clear.ensures
    (subst (λ (t : List ℕ). OnOk c.write_all.result (Appends before now t)) e c.write_all.ensures.all)
    (subst (λ (t : List ℕ). TakesFront before now t) e c.write_all.ensures.front) c.write_all.ensures.cause
