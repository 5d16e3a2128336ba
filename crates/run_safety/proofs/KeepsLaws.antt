-- A run keeps all of its parts.
use Rattle.std.proofs.Common.{ℕ, List, reverse}
use Rattle.journal_history.specs.Entries.{Entry, now}
use Rattle.run_safety.specs.Run.{Story, Follows}
use Rattle.run_safety.specs.Keeps.{KeepsParts}
use Rattle.run_safety.proofs.Oks.{newest_rises}
use Rattle.run_safety.proofs.Served.{known_chosen, carried_chosen}
use Rattle.run_safety.proofs.Kept.{keeps_promise, answer_promised, one_owner_an_epoch, written_once, starts_chained, segments_chained, chosen_survives, starts_above}
use Rattle.run_safety.proofs.Kept.{finalised_chosen, recovery_whole, opened_or_accepted}
use Rattle.run_safety.proofs.Authors.{line_author}
use Rattle.run_safety.proofs.Journals.{line_put}
use Rattle.run_safety.proofs.FinalCopies.{final_has_all, final_is_kept}
use Rattle.run_safety.proofs.Proposals.{proposals_told, only_purges}
use Rattle.run_safety.proofs.Openings.{start_cause}
use Rattle.run_safety.proofs.Chain.{starts_next}
use Rattle.run_safety.proofs.Finalised.{finalised_stays}
use Rattle.run_safety.proofs.Halves.{epoch_promised, one_proposal, proposer_owns, accepted_value, purge_spares}

pub keeps_parts : (n : ℕ) (story : Story) (past : List Entry) → Follows n story past → KeepsParts n past
keeps_parts n story past run = record {
  promises = λ i. keeps_promise i past;
  answers = λ old e c w r y h p is fine at. answer_promised n story past run old e c w r y h p is fine at;
  epochs = λ old e c w f told p is. epoch_promised n story past run old e c w f told p is;
  owners = λ s f xs ys x y p q h k at also is_p is_q has other same. one_owner_an_epoch n s past f xs ys x y p q h k at also is_p is_q has other same;
  proposals = λ s f i j e nodes others p q x y. one_proposal n s past f i j e nodes others p q x y;
  proposers = λ s f old e a nodes r h majority x p is at. proposer_owns n s past f old e a nodes r h majority x p is at;
  written = λ i j g h t x y p q same has also. written_once n story past run i j g h t x y p q same has also;
  accepted_values = λ old e h b i g p is held start epoch. accepted_value n story past run old e h b i g p is held start epoch;
  opened_or_accepted = λ xs ys x y e h b p q is of same. opened_or_accepted n story past run xs ys x y e h b p q is of same;
  starts = λ old e f k p is. starts_chained n story past run old e f k p is;
  segments = λ i g t x h has. segments_chained n story past run i g t x h has;
  starts_next = λ e m l i g t x f held has. starts_next n story past run e m l i g t x f held has;
  openings = λ old e f k p is. start_cause n story past run old e f k p is;
  chosen = λ i e t g x c h lt. chosen_survives n story past run i e t g x c h lt;
  starts_above = λ old e f g t k x c p is lt. starts_above n story past run old e f g t k x c p is lt;
  known = λ i t one up. known_chosen n story past run i t one up;
  carried = λ old e r h t p is at one up. carried_chosen n story past run old e r h t p is at one up;
  finalised = λ old e h m l p is. finalised_chosen n story past run old e h m l p is;
  final_whole = λ i j g h t x hg hh final start epoch has. final_has_all n story past run i j g h t x hg hh final start epoch has;
  final_kept = λ i j g h hg hh final start lt. final_is_kept n story past run i j g h hg hh final start lt;
  final_stays = λ i h m l ok. finalised_stays n story past run i m l h ok;
  newest_rises = λ old i k p is. newest_rises n story past run i k p now is;
  told = λ e f t body nodes chosen lt majority each. proposals_told n story past run e f t body nodes chosen lt majority each;
  removed = λ old e i m g p there gone. only_purges n story past run old e i m g there gone;
  spared = λ s f old e i m g p there gone. purge_spares n s past f old e i m g p there gone;
  recovered = λ old e h b p is. recovery_whole n story past run old e h b p is;
  authors = λ t x on. line_author n story past run t x on;
  journals = λ t x on. line_put n story past run t x on;
}
