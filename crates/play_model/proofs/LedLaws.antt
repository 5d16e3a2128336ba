-- Stretches of a record, one after the other.
use Rattle.std.proofs.Common.{◌≡◌, List, [], ◌∷◌, ◌++◌, refl, sym, ap, ◌∙◌, subst}
use Rattle.journal_history.specs.declared.record.Record.{Record}
use Rattle.play_model.specs.Actor.{Actor, Fits, wants, goes_on, IsLed, actor_after}
use Rattle.play_model.specs.Actions.{LedTo}

pub led_same : (x y : Actor) → x ≡ y → LedTo x y
unfolding IsLed actor_after
led_same x y e = record { lines = []; led = tt; after = e }

pub led_append : (x : Actor) (rs ss : List Record) → IsLed x rs → IsLed (actor_after x rs) ss → IsLed x (rs ++ ss) × (actor_after x (rs ++ ss) ≡ actor_after (actor_after x rs) ss)
unfolding IsLed actor_after
led_append x [] ss h g = (g, refl)
led_append x (r ∷ rs) ss h g = let m = led_append (goes_on x r) rs ss h.1 g in ((h.0, m.0), m.1)

pub led_on : (x y z : Actor) → LedTo x y → LedTo y z → LedTo x z
led_on x y z a b =
    let g : IsLed (actor_after x a.lines) b.lines = subst (λ w. IsLed w b.lines) (sym a.after) b.led in
    let m = led_append x a.lines b.lines a.led g in
    record { lines = a.lines ++ b.lines; led = m.0; after = m.1 ∙ ap (λ w. actor_after w b.lines) a.after ∙ b.after }

pub led_one : (x y : Actor) (r : Record) → Fits (wants x) r → goes_on x r ≡ y → LedTo x y
unfolding IsLed actor_after
led_one x y r f e = record { lines = r ∷ []; led = (f, tt); after = e }
