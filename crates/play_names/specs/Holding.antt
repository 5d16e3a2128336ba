-- What a name node holds beside its writer: a namespace and its position, its images, and the work
-- under way.
use Rattle.std.specs.Prelude.{ℕ, ◌+◌, ◌-◌, ◌==◌, max, nat_lt, List, [], ◌∷◌, take, Option, Some, None, if◌then◌else◌}
use Rattle.journal_core.specs.declared.heard.Heard.{Heard}
use Rattle.ns_tree.specs.Space.{Space, empty_space}
use Rattle.ns_edits.specs.Replay.{Image}
use Rattle.play_names.specs.Submissions.{Due}

-- The work under way: none; a tail up to a txid or without one, which asks this node next, with
-- what the nodes before it told in this pass; a round of edits, with the namespace that they lead
-- to and what became of each that was submitted. An actor that met a bad entry does nothing more.
pub data Work : Type 0 where
  Free : Work
  Tails : (until : Option ℕ) (node : ℕ) (told : List Heard) → Work
  Logs : (ahead : Space) (dues : List Due) → Work
  Broken : Work

pub record Holding : Type 0 where
  pub space : Space
  pub position : ℕ
  -- the two newest images, the newest first
  pub images : List Image
  pub work : Work

abbrev pub new_holding : Holding
new_holding = record { space = empty_space; position = 0; images = []; work = Free }

abbrev pub empty_holding : Holding → Holding
empty_holding h = record h { space = empty_space; position = 0 }

-- up to a txid: one that has read more begins empty
abbrev pub enters : ℕ → Holding → Holding
enters last h = if nat_lt last h.position then empty_holding h else h

abbrev pub with_work : Work → Holding → Holding
with_work work h = record h { work = work }

abbrev pub at_position : ℕ → Holding → Holding
at_position t h = record h { position = t; work = Free }

-- ## Images
-- among the others, by falling txid, in the place of one with its txid
unfoldable pub image_put : Image → List Image → List Image
image_put i [] = i ∷ []
image_put i (j ∷ js) =
    if nat_lt j.txid i.txid then i ∷ j ∷ js
    else if j.txid == i.txid then i ∷ js
    else j ∷ image_put i js

-- it is saved, and the two newest are kept
unfoldable pub save_image : Holding → Holding
save_image h = record h { images = take 2 (image_put (record { space = h.space; txid = h.position }) h.images) }

abbrev pub load_image : List Image → Holding → Holding
load_image [] h = empty_holding h
load_image (i ∷ is) h = record h { space = i.space; position = i.txid }

-- from its newest image, or empty at 0
unfoldable pub reload_image : Holding → Holding
reload_image h = load_image h.images (record h { work = Free })

-- the least txid to keep: after the older of the two newest images, less some more
unfoldable pub min_to_keep : ℕ → List Image → Option ℕ
min_to_keep extra [] = None
min_to_keep extra (i ∷ []) = Some (max 1 (i.txid + 1 - extra))
min_to_keep extra (i ∷ j ∷ js) = Some (max 1 (j.txid + 1 - extra))
