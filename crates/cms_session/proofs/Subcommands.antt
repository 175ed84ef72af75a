-- A text that a procedure sends to an extension.
use Rattle.std.proofs.Common.{◌≡◌, ◌∙◌, ℕ, List, pos, Option, None, Result, Ok, Err, refl, sym, ap}
use Rattle.std.specs.Prelude.{map}
use Rattle.cms_ebcdic.specs.CodePage.{upper_of}
use Rattle.cms_model.specs.Acts.{Act, bind}
use Rattle.cms_model.specs.Objects.{Object}
use Rattle.cms_model.specs.Slots.{Slot}
use Rattle.cms_line.specs.declared.message.Message.TheVariants.{M122}
use Rattle.cms_search.specs.Calls.{Acts, SpotWith, course_of, holds, refusal_tree}
use Rattle.cms_search.specs.declared.state.Course as declared
use Rattle.cms_search.specs.declared.state.End.{End}
use Rattle.cms_search.proofs.Acts.{acts_same}
use Rattle.cms_ext.specs.Calls.{desk_of, ended_of}
use Rattle.exec2_run.specs.State.{Exec}
use Rattle.cms_cards.specs.PunchedCards.{Decks}
use Rattle.cms_session.specs.RoundCalls.{answering, passed_beside, round_with, send_tree}
use Rattle.cms_session.specs.Decks.{leaving_decks}
use Rattle.cms_session.specs.Lines.{Issued, came, extension_named}
use Rattle.cms_session.specs.Nucleus.{leaving_to, none_there}
use Rattle.cms_session.specs.Procedures.{answered_beside}
use Rattle.cms_session.specs.Subcommands.{told, told_or_refused}
use Rattle.cms_session.specs.declared.dispatch.Issued.TheVariants.{Came}
use Rattle.cms_session.specs.declared.state.Round as rounds
use Rattle.cms_session.proofs.Alone.{alone}
use Rattle.cms_session.proofs.NucleusCalls.{left_to}
use Rattle.cms_session.proofs.Requests.{ran_off, ran_so}
use Rattle.cms_session.proofs.Statements.{issue_answered, issue_off}

module _ (os : List Object) (old : SpotWith os) (word text capitals : List ℕ) (found : Option ℕ) (folds : capitals ≡ map upper_of word)
    (is : found ≡ extension_named os capitals) where
  -- by the place of the word
  sends : (x : Option ℕ) → found ≡ x → (units : List Slot) → holds old units
      → send_tree old.state os word text units ≡ told_or_refused (desk_of old.state os units) capitals text x
  sends x same units h =
      ap (λ (w : List ℕ). told (desk_of old.state os units) w text) (sym folds)
      ∙ ap (λ (y : Option ℕ). told_or_refused (desk_of old.state os units) capitals text y) (sym is ∙ same)

  -- there is none
  pub refused_so : (new : SpotWith os) (r : Result declared.Course End) → found ≡ None
      → Acts (alone old) (alone new) (refusal_tree old.state (M122 capitals) (pos none_there)) r (course_of new.state)
      → Acts old new (send_tree old.state os word text) r (ended_of new.state os)
  refused_so new r none acts =
      acts_same old new (send_tree old.state os word text) (λ units. leaving_to os (refusal_tree old.state (M122 capitals) (pos none_there) units)) r
      (ended_of new.state os) (sends None none) (left_to os old new (refusal_tree old.state (M122 capitals) (pos none_there)) r acts)

-- ---- by the newest procedure, once it is back among the others

module _ (a b : List Object) (decks : Decks) (old : SpotWith a) (mid : SpotWith b) (ps : List Exec) (word text : List ℕ) where
  abbrev sending : List Slot → Act (Issued × Decks)
  sending units = leaving_decks decks (bind (send_tree old.state a word text units) came)

  pub sent_off : (e : End) (qs : List Exec) → Acts {T = declared.Course} old mid (send_tree old.state a word text) (Err e) (ended_of mid.state b)
      → Acts {T = rounds.Round} old mid (λ units. bind (sending units) (answered_beside ps)) (Err e) (passed_beside mid.state decks qs b)
  sent_off e qs acts =
      issue_off a b decks old mid ps sending e qs (ran_off a b decks old mid sending (send_tree old.state a word text) (λ units h. refl) e acts)

  pub sent_so : (new : SpotWith b) (rest qs : List Exec) (c : declared.Course) (r : Result rounds.Round End) (kept : Decks) → rest ≡ ps
      → Acts old mid (send_tree old.state a word text) (Ok c) (ended_of mid.state b) → kept ≡ decks
      → Acts (alone mid) (alone new) (answering mid.state rest (Came c)) r (round_with new.state qs)
      → Acts old new (λ units. bind (sending units) (answered_beside ps)) r (passed_beside new.state kept qs b)
  sent_so new rest qs c r kept is acts same next =
      let again = rw is at next in
      issue_answered a b decks old mid ps sending new (Came c) r qs kept
      (ran_so a b decks old mid sending (send_tree old.state a word text) (λ units h. refl) c acts) same again
