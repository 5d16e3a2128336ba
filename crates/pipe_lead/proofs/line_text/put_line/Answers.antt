use Rattle.pipe_lead.proofs.TextLaws.{put_rest}
use Rattle.pipe_lead.proofs.line_text.put_line.Goals as goal

pub returns-in_ok-put-in-Some-2 : goal.returns-in_ok-put-in-Some-2
returns-in_ok-put-in-Some-2 c =
    put_rest c.put-in-Some-2.result c.args.line.now c.in-Some.word.now c.in-Some.rest.now c.args.out.now.items _ _ _ c.in-Some.ensures.words
    c.in_ok-put-in-Some.ensures.ok c.in_ok-put-in-Some-2.ensures.ok c.put-in-Some-2.ensures.ok
