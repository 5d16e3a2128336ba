use Rattle.std.proofs.Common.{ap, map, subst}
use Rattle.json.specs.Json.{string}
use Rattle.list_text.specs.Values.{array_of, IsAsciiMember}
use Rattle.list_text.specs.Shown.{shown}
use Rattle.list_text.proofs.Trees.{member_added}
use Rattle.list_text.proofs.Ascii.{array_ascii}
use Rattle.list_text.proofs.writing.put_member.Goals as goal

pub returns-in_ok-put_key-in-Texts : goal.returns-in_ok-put_key-in-Texts
returns-in_ok-put_key-in-Texts c =
    member_added c.put_texts.result c.args.writer.now c.put_key-in-Texts.new.writer c.put_texts.new.writer c.in-Texts.key.now (array_of (map string c.in-Texts.texts.now))
    (shown c.args.member) (ap shown c.in-Texts.is) c.in_ok-put_key-in-Texts.ensures c.put_texts.ensures

pub put_texts-requires : goal.put_texts-requires
put_texts-requires c = array_ascii c.in-Texts.texts.now (subst IsAsciiMember (ap shown c.in-Texts.is) c.requires)
