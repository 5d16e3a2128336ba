-- Two lives of a caller at a node. The first was killed in the middle of its second line, behind
-- which the first line of the second life stands then: it is no line, which the node tells with
-- `bad`, and the session ends. The next session takes the second line of the second life.
use Rattle.std.specs.Prelude.{List, [], ◌∷◌, ◌++◌, codes}
use Rattle.journal_core.specs.declared.request.Request.TheVariants as request
use Rattle.journal_core.specs.declared.reply.Reply.TheVariants as reply
use Rattle.journal_history.specs.declared.node_ask.NodeAnswer.TheVariants.{Replied}
use Rattle.journal_history.specs.declared.record.Told.TheVariants as told
use Rattle.pipe_seats.specs.Tags.{GotAs}
use Rattle.pipe_serve.specs.Bytes.{CallerLife, SessionBytes}

abbrev pub first_life : CallerLife
first_life = record {
  life = 7;
  asked = record { number = 1; request = request.State; told = told.Reply (reply.State 0) } ∷ record { number = 2; request = request.Manifest; told = told.Silent } ∷ [];
  wrote = codes "#7 1 state ." ++ 10 ∷ codes "#7 2 mani";
  read = (codes "#7 1 state 0 ." ++ 10 ∷ []) ∷ [];
}

abbrev pub second_life : CallerLife
second_life = record {
  life = 8;
  asked = record { number = 1; request = request.State; told = told.Silent } ∷ record { number = 2; request = request.State; told = told.Reply (reply.State 0) } ∷ [];
  wrote = codes "#8 1 state ." ++ 10 ∷ codes "#8 2 state ." ++ 10 ∷ [];
  read = (codes "bad" ++ 10 ∷ []) ∷ (codes "#8 2 state 0 ." ++ 10 ∷ []) ∷ [];
}

abbrev pub one_got : GotAs
one_got = record { number = 1; got = record { request = request.State; answer = Replied (reply.State 0) } }

abbrev pub two_got : GotAs
two_got = record { number = 2; got = record { request = request.State; answer = Replied (reply.State 0) } }

abbrev pub first_session : SessionBytes
first_session = record {
  taken = record { life = 7; text = codes "state"; got = one_got } ∷ [];
  rest = codes "#7 2 mani#8 1 state ." ++ 10 ∷ [];
  wrote = codes "#7 1 state 0 ." ++ 10 ∷ codes "bad" ++ 10 ∷ [];
}

abbrev pub second_session : SessionBytes
second_session = record {
  taken = record { life = 8; text = codes "state"; got = two_got } ∷ [];
  rest = [];
  wrote = codes "#8 2 state 0 ." ++ 10 ∷ [];
}

abbrev pub two_lives : List CallerLife
two_lives = first_life ∷ second_life ∷ []

abbrev pub two_sessions : List SessionBytes
two_sessions = first_session ∷ second_session ∷ []
