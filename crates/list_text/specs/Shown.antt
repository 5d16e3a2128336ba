-- The members of an object as the code lends them.
use Rattle.std.specs.Prelude.{ℕ, List, map}
use Rattle.json.specs.Json.{Json, boolean, string}
use Rattle.list_text.specs.declared.member.Member.{Member}
use Rattle.list_text.specs.declared.member.Member.TheVariants as lent
use Rattle.list_text.specs.Values.{number_of, limit_of, array_of}

abbrev pub shown : Member → List ℕ × Json
shown (lent.Number key n) = (key.now, number_of n)
shown (lent.Limit key limit) = (key.now, limit_of limit)
shown (lent.Word key text) = (key.now, string text.now)
shown (lent.Text key bytes) = (key.now, string bytes.now)
shown (lent.Flag key b) = (key.now, boolean b)
shown (lent.Numbers key ns) = (key.now, array_of (map number_of ns.now))
shown (lent.Texts key ts) = (key.now, array_of (map string ts.now))
