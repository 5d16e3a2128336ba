-- What changes nothing, and one such after another.
use Rattle.std.proofs.Common.{inl, inr, ⊎_elim, refl, ◌∙◌, arith}
use Rattle.base_disk.specs.View.{View, IsSound}
use Rattle.base_disk.specs.Calls.{Keeps, Rests}

-- nothing changes while nothing changes
pub rests_same : (v : View) → Rests v v
rests_same v = record {
  keeps = record { seen = refl; crash = λ c left. left; time = record { later = omega arith; nothing_else = λ t c le left. inl left; keeps = λ t c le left. left } };
  synced = refl;
}

pub keeps_then : (u v w : View) → IsSound u → Keeps u v → Keeps v w → Keeps u w
keeps_then u v w sound first second = record {
  seen = second.seen ∙ first.seen;
  crash = λ c left. first.crash c (second.crash c left);
  time = record {
    later = omega (arith, first.time.later, second.time.later);
    nothing_else = λ t c le left. ⊎_elim
        (λ was. ⊎_elim (λ l. inl l) (λ now. inl (sound.counts_now t c le (first.crash c now))) (first.time.nothing_else t c le was))
        (λ now. inr now) (second.time.nothing_else t c (omega (arith, le, first.time.later)) left);
    keeps = λ t c le left. second.time.keeps t c (omega (arith, le, first.time.later)) (first.time.keeps t c le left);
  };
}

pub rests_then : (u v w : View) → IsSound u → Rests u v → Rests v w → Rests u w
rests_then u v w sound first second = record { keeps = keeps_then u v w sound first.keeps second.keeps; synced = second.synced ∙ first.synced }
