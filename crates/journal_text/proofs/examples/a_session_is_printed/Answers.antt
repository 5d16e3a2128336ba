use Rattle.std.proofs.Common.{refl}
use Rattle.std.specs.Fmt.{digits}
use Rattle.base_words.specs.Hex.{hex_text}
use Rattle.journal_text.specs.Texts.{request_text, reply_text, numbers_text, bodies_text, lines_text, refusal_name}
use Rattle.journal_text.proofs.examples.a_session_is_printed.Goals as goal

pub returns-clause-requests : goal.returns-clause-requests
unfolding request_text reply_text numbers_text hex_text bodies_text lines_text refusal_name digits
returns-clause-requests c = refl

pub returns-clause-replies : goal.returns-clause-replies
unfolding request_text reply_text numbers_text hex_text bodies_text lines_text refusal_name digits
returns-clause-replies c = refl
