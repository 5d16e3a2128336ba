-- Entries and batches as they stand in bytes, whichever rules they break.
use Rattle.std.specs.Prelude.{ℕ, zero, suc, ◌+◌, ◌-◌, Bool, Result, Ok, Err, List, [], ◌∷◌, length, take, drop, Option, Some, None, nat_lt, if◌then◌else◌, option_and_then}
use Rattle.std.specs.Option.{option_map}
use Rattle.std.specs.Int.{w16, w32, w64, from_be_bytes}
use Rattle.journal_core.specs.Views.{BatchView}
use Rattle.disk_frame.specs.declared.frame_cause.FrameCause.{FrameCause}
use Rattle.disk_frame.specs.declared.frame_cause.FrameCause.TheVariants.{Length, Count, Body, Order}
use Rattle.disk_frame.specs.Frames.{is_bad_count, is_out_of_order, broken_rule}

-- the body at the front, and the bytes after its entry
unfoldable pub entry_at : List ℕ → Option (List ℕ × List ℕ)
entry_at bytes =
    if nat_lt (length bytes) (2 + from_be_bytes w16 (take 2 bytes)) then None
    else Some (take (from_be_bytes w16 (take 2 bytes)) (drop 2 bytes), drop (2 + from_be_bytes w16 (take 2 bytes)) bytes)

-- the bodies of so many entries, where they are all of the bytes
abbrev pub entries_in : ℕ → List ℕ → Option (List (List ℕ))
entries_in zero [] = Some []
entries_in zero (byte ∷ bytes) = None
entries_in (suc count) bytes = option_and_then (λ entry. option_map (λ bodies. entry.0 ∷ bodies) (entries_in count entry.1)) (entry_at bytes)

-- the batch of which these are the bytes after a frame's length
unfoldable pub batch_in : List ℕ → Option BatchView
batch_in inner =
    if nat_lt (length inner) 12 then None
    else option_map (λ bodies. record { first = from_be_bytes w64 (take 8 inner); bodies = bodies }) (entries_in (from_be_bytes w32 (take 4 (drop 8 inner))) (drop 12 inner))

-- the first rule that is broken, by the numbers of a frame and by whether some body is bad
abbrev pub first_rule : ℕ → ℕ → ℕ → Bool → Option FrameCause
first_rule next first count has_bad_body =
    if is_bad_count count then Some Count
    else if has_bad_body then Some Body
    else if is_out_of_order next first (first + count - 1) then Some Order
    else None

-- how many entries there are, where no rule is broken
abbrev pub count_unless : Option FrameCause → ℕ → Result ℕ FrameCause
count_unless None count = Ok count
count_unless (Some cause) count = Err cause

abbrev pub judged : ℕ → Option BatchView → Result ℕ FrameCause
judged next None = Err Length
judged next (Some b) = count_unless (broken_rule next b) (length b.bodies)
