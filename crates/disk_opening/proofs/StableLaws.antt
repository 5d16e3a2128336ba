-- What is stable stands for what is read.
use Rattle.std.proofs.Common.{◌≡◌, ℕ, ◌<◌, List, [], ◌∷◌, ◌++◌, length, refl, ◌∙◌, arith, length-append}
use Rattle.base_disk.specs.Files.{Files}
use Rattle.base_disk.specs.View.{View}
use Rattle.journal_core.specs.declared.segment.Segment.{Segment}
use Rattle.disk_segment.specs.Stands.{StandsFor}
use Rattle.disk_segment.specs.Effects.{IsTidy, IsReady}
use Rattle.disk_opening.specs.Opening.{SegmentsStable}
use Rattle.disk_segment.proofs.Frame.{stands_same}
use Rattle.disk_opening.proofs.MendLemmas.{stable_file}

-- the last byte of a name
abbrev pub end_byte : List ℕ → ℕ
end_byte [] = 0
end_byte (x ∷ []) = x
end_byte (x ∷ y ∷ ys) = end_byte (y ∷ ys)

end_on : (x : ℕ) (ys : List ℕ) → 0 < length ys → end_byte (x ∷ ys) ≡ end_byte ys
end_on x [] some = absurd (omega (arith, some))
end_on x (y ∷ ys) some = refl

pub end_behind : (xs ys : List ℕ) → 0 < length ys → end_byte (xs ++ ys) ≡ end_byte ys
end_behind [] ys some = refl
end_behind (x ∷ xs) ys some = end_on x (xs ++ ys) (omega (arith, some, length-append xs ys)) ∙ end_behind xs ys some

module _ (v : View) (stable : SegmentsStable v) where
  pub stable_stands : (gs : List Segment) → StandsFor v.seen gs → (c : Files) → v.may_leave c → StandsFor c gs
  stable_stands gs stands c left = stands_same v.seen c gs (λ start kind first small ok lasts. stable_file v stable start kind first small ok lasts c left) stands

  pub stable_ready : (gs : List Segment) → IsTidy v.seen → StandsFor v.seen gs → IsReady v gs
  stable_ready gs tidy stands = record { stands = stable_stands gs stands; tidy = tidy }
