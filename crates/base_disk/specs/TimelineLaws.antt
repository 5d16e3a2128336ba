-- The laws of a disk's meaning hold of a disk in memory.
use Rattle.std.specs.Prelude.{◌≡◌, ℕ, List, Option, Some, None, refl}
use Rattle.std.proofs.Common.{inl, inr, ⊎_elim}
use Rattle.std.proofs.lemmas.Option.{slice_get_past}
use Rattle.base_disk.specs.View.{IsSound}
use Rattle.base_disk.specs.FileView.{FileView}
use Rattle.base_disk.specs.FileMap.{Map, file_in, now_of, stable_of, MayBe}
use Rattle.base_disk.specs.Timeline.{Past, view_of}
use Rattle.base_disk.specs.ImageLaws.{stable_image}

now_may_be : (f : Option FileView) → MayBe f (now_of f)
now_may_be None = refl
now_may_be (Some f) = inr refl

stable_may_be : (f : Option FileView) → MayBe f (stable_of f)
stable_may_be None = refl
stable_may_be (Some f) = stable_image f

none_is_none : (f : Option FileView) (x : Option (List ℕ)) → now_of f ≡ None → MayBe f x → x ≡ None
none_is_none None x none image = image
none_is_none (Some f) x none image = absurd (cc)

pub is_sound : (past : Past) (m : Map) → IsSound (view_of past m)
is_sound past m = record {
  seen_now = λ name. now_may_be (file_in m name);
  synced_now = λ name. stable_may_be (file_in m name);
  absent = λ name c none leaves. none_is_none (file_in m name) (c name) none (leaves name);
  counts_now = λ t c le leaves. inl leaves;
  only_now = λ c left. ⊎_elim (λ leaves. leaves) (λ since. let none = slice_get_past past since.moment since.later in let there = since.there in absurd (cc)) left;
}
