-- A caller over a wire: what it lists, and what its lines did to the wire.
use Rattle.std.specs.Prelude.{◌≡◌, ℕ, ◌≤◌, List, [], ◌∷◌, ◌++◌}
use Rattle.journal_core.specs.declared.request.Request.{Request}
use Rattle.journal_core.specs.declared.heard.Heard.{Heard}
use Rattle.journal_core.specs.declared.heard.Heard.TheVariants.{Answer, Silent}
use Rattle.journal_history.specs.declared.node_ask.NodeAnswer.{NodeAnswer}
use Rattle.journal_history.specs.declared.record.Record.{Record}
use Rattle.journal_history.specs.declared.record.Record.TheVariants.{Call, Late, Operator, Outcome}
use Rattle.journal_history.specs.declared.record.Told.{Told}
use Rattle.journal_history.specs.declared.record.Told.TheVariants as told
use Rattle.mesh.specs.Marks.{next_number, IsAsMarked}
use Rattle.mesh.specs.Makers.{heard_of}
use Rattle.play_calls.specs.declared.delivery.Delivery.{Delivery}
use Rattle.play_calls.specs.Deliveries.{told_of}
use Rattle.play_calls.specs.Logs.{LogView, with_line}
use Rattle.caller.specs.declared.wire.WireModel.{Ghosts}

-- what contracts see of a caller
pub record CallerView (W : Type 0) : Type 0 where
  pub wire : W
  pub log : LogView

-- what is told of a call that goes so, whatever is heard
pub record IsTold (delivery : Delivery) (t : Told) : Type 0 where
  pub answer : NodeAnswer
  pub is : t ≡ told_of delivery answer

-- what a call did to the wire, by what was told of it
abbrev pub CallGoes : {W : Type 0} → Ghosts W → ℕ → Request → Told → W → W → Type 0
CallGoes w node r (told.Reply reply) old new = w.carries node r (Answer reply) old new
CallGoes w node r told.Dropped old new = w.skips node old new
CallGoes w node r told.Muted old new = (heard : Heard) × w.carries node r heard old new
CallGoes w node r told.Silent old new = w.carries node r Silent old new

-- what a line of the record did to it
abbrev pub LineGoes : {W : Type 0} → Ghosts W → Record → W → W → Type 0
LineGoes w (Call node r t) old new = (1 ≤ node) × (node ≤ w.nodes old) × CallGoes w node r t old new
LineGoes w (Late node r) old new = (1 ≤ node) × (node ≤ w.nodes old) × w.copies node r old new
LineGoes w (Operator node ask done) old new = (1 ≤ node) × (node ≤ w.nodes old) × w.operates node ask done old new
LineGoes w (Outcome text) old new = new ≡ old

-- One line: requests may be sent ahead, then the line went, and the rest came after.
pub record OneGoes {W : Type 0} (w : Ghosts W) (line : Record) (Rest : W → Type 0) (old : W) : Type 0 where
  pub ahead : W
  pub after : W
  pub readied : w.readies old ahead
  pub went : LineGoes w line ahead after
  pub rest : Rest after

-- line by line; behind the last one requests may be sent ahead too
unfoldable pub LinesGo : {W : Type 0} → Ghosts W → List Record → W → W → Type 0
LinesGo w [] old new = w.readies old new
LinesGo w (line ∷ lines) old new = OneGoes w line (λ after. LinesGo w lines after new) old

-- the caller some lines later
pub record AreLater {W : Type 0} (w : Ghosts W) (old new : CallerView W) : Type 0 where
  pub nodes : new.log.nodes ≡ old.log.nodes
  pub lines : List Record
  pub past : new.log.past ≡ old.log.past ++ lines
  pub went : LinesGo w lines old.wire new.wire

-- a call over the wire, told as the marks say, and listed
pub record IsCalledOver {W : Type 0} (w : Ghosts W) (node : ℕ) (r : Request) (heard : Heard) (old : LogView) (before : W) (new : LogView) (after : W) : Type 0 where
  pub told : Told
  pub hears : heard ≡ heard_of told
  pub as_marked : IsAsMarked old.marks node (next_number node old.past) told
  pub listed : new ≡ with_line old (Call node r told)
  pub went : CallGoes w node r told before after
