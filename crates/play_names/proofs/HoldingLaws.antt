-- What is held once an image was taken.
use Rattle.std.proofs.Common.{◌≡◌, List, [], ◌∷◌, refl}
use Rattle.ns_edits.specs.Replay.{Image}
use Rattle.play_names.specs.Holding.{Holding, Free, load_image, reload_image}

pub loaded_work : (images : List Image) (h : Holding) → (load_image images h).work ≡ h.work
loaded_work [] h = refl
loaded_work (i ∷ is) h = refl

pub reloaded_free : (h : Holding) → (reload_image h).work ≡ Free
unfolding reload_image
reloaded_free h = loaded_work h.images (record h { work = Free })
