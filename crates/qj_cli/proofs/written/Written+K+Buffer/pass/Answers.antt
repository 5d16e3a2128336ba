use Rattle.std.proofs.Common.{ℕ, List, ◌≡◌, ◌++◌, sym, ap, subst}
use Rattle.std.specs.Prelude.{OnOk}
use Rattle.std.specs.Io.KnownBytes.{Appends}
use Rattle.base_outside.specs.Whole.{TakesFront}
use Rattle.qj_cli.proofs.WriteLaws.{wrote}
use Rattle.qj_cli.proofs.written.Written+K+Buffer.pass.Goals as goal

pub returns-clause-gives : goal.returns-clause-gives
returns-clause-gives g c =
    let held = c.args.self.now.buffer in
    let before = g.K.Sink.taken c.args.self.now.sink.now in
    let now = g.K.Sink.taken c.write_all.new.sink in
    let e : c.args.piece.now ≡ held ++ c.args.piece.now = ap (λ (t : List ℕ). t ++ c.args.piece.now) (sym c.requires.empty) in
    wrote before now _ _ held held c.args.piece.now _ _ c.write_all.result c.requires.sound c.is_err-self.ensures.value c.requires.empty
    (subst (λ (t : List ℕ). OnOk c.write_all.result (Appends before now t)) e c.write_all.ensures.all)
    (subst (λ (t : List ℕ). TakesFront before now t) e c.write_all.ensures.front) c.write_all.ensures.cause
