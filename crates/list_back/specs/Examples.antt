-- Known texts.
use Rattle.std.specs.Prelude.{ℕ, List, codes}

-- the object of the mark of a start at the txid 1
abbrev pub start_text : List ℕ
start_text = codes "[{\"op\":\"OP_START_LOG_SEGMENT\",\"txid\":1}]"

-- that text with spaces, with the keys in the other order, and with a key twice
abbrev pub turned_text : List ℕ
turned_text = codes "[ {\"txid\":7,\"txid\":1,\"op\":\"OP_START_LOG_SEGMENT\"} ]"

-- texts of numbers that are none of the listing
abbrev pub point_text : List ℕ
point_text = codes "[{\"op\":\"OP_START_LOG_SEGMENT\",\"txid\":1.0}]"

abbrev pub power_text : List ℕ
power_text = codes "[{\"op\":\"OP_START_LOG_SEGMENT\",\"txid\":1e0}]"

-- an array that isn't closed, and one of nothing
abbrev pub open_text : List ℕ
open_text = codes "[1"

abbrev pub empty_text : List ℕ
empty_text = codes "[]"
