-- What lines come to.
use Rattle.std.proofs.Common.{◌≡◌, ℕ, pos, true, false, List, [], ◌∷◌, slice_get, Option, Some, None, Result, Ok, Err, refl, ap, sym, ◌∙◌, subst}
use Rattle.cms_model.specs.Slots.{Slot}
use Rattle.cms_model.specs.Acts.{Act, Done, bind}
use Rattle.cms_model.specs.Objects.{Object, Start}
use Rattle.cms_line.specs.Tokens.{tokens_of}
use Rattle.cms_line.specs.declared.token.Token.{Token}
use Rattle.cms_search.specs.Calls.{SpotWith, Acts, holds, machine_of, course_of}
use Rattle.cms_search.specs.Machine.{Course, Machine}
use Rattle.cms_search.specs.Shows.{Shows}
use Rattle.cms_search.specs.declared.state.Course as declared
use Rattle.cms_search.specs.declared.state.Course.TheVariants as course
use Rattle.cms_search.specs.declared.state.End.{End}
use Rattle.cms_search.specs.declared.state.State.{State}
use Rattle.cms_search.proofs.Acts.{comes_in, comes_same, comes_then, acts_done, acts_same, acts_stop}
use Rattle.cms_search.proofs.LetterDisks.{holds_shows}
use Rattle.cms_exec.specs.Exec.{Starting, call_command, exec_command, started_of}
use Rattle.cms_exec.specs.Searches.{called_by}
use Rattle.cms_exec.specs.declared.start.Started.{Started}
use Rattle.cms_exec.specs.declared.start.Started.TheVariants as call
use Rattle.cms_ext.specs.Calls.{desk_of, ended_of, run_tree}
use Rattle.cms_ext.specs.Extensions.{Desk, Ended}
use Rattle.cms_ext.specs.Objects.{words_of}
use Rattle.exec2_run.specs.declared.exec.FileName.{FileName}
use Rattle.cms_cards.specs.Calls.{cards_tree, dealt_of}
use Rattle.cms_cards.specs.Cards.{Dealt}
use Rattle.cms_cards.specs.PunchedCards.{Decks}
use Rattle.cms_cards.specs.declared.command.CardCommand.{CardCommand}
use Rattle.cms_session.specs.Commands.{is_comment, request_of}
use Rattle.cms_session.specs.Decks.{leaving_decks}
use Rattle.cms_session.specs.Lines.{Issued, Came, called_or_obeyed, came, came_with, dealt_with, extended_or_requested, extension_of, request, requested, started}
use Rattle.cms_session.specs.Nucleus.{ended_with}
use Rattle.cms_session.specs.RoundCalls.{command_tree, issue_tree, issued_beside, issued_of, issued_started, nucxdrop_tree, nucxmap_tree, obey_tree, request_tree, take_up_tree}
use Rattle.cms_session.specs.declared.command.Command.{Command}
use Rattle.cms_session.specs.declared.command.Request.{Request}
use Rattle.cms_session.specs.declared.command.Request.TheVariants as ask
use Rattle.cms_session.specs.declared.dispatch.Issued as declared_issued
use Rattle.cms_session.specs.declared.dispatch.Issued.TheVariants as line
use Rattle.cms_session.proofs.Alone.{acts_alone, alone, decked, leaves_off, leaves_so}
use Rattle.cms_session.proofs.Rounds.{done_here}

-- ---- a command that knows of no object

came_same : (s : State) (os : List Object) (units : List Slot) (c : declared.Course) → Came (ended_with os (course_of s units c)) ≡ issued_of s os units (line.Came c)
came_same s os units (course.Went code) = refl
came_same s os units course.OutOfTurns = refl

-- where what the line comes to is that command
module _ (os : List Object) (decks : Decks) (old mid : SpotWith os) (tree : List Slot → Act (Issued × Decks)) (commands : List Slot → Act Course)
    (is : (units : List Slot) → holds old units → tree units ≡ leaving_decks decks (bind (commands units) (came_with os))) where
  commanded : (r : Result declared_issued.Issued End) → Acts old mid (λ units. bind (commands units) (came_with os)) r (issued_of mid.state os)
      → Acts old mid tree r (issued_beside mid.state os decks)
  commanded r a =
      acts_same old mid tree (λ units. leaving_decks decks (bind (commands units) (came_with os))) r (issued_beside mid.state os decks) is
      (decked old mid decks (λ units. bind (commands units) (came_with os)) r (issued_of mid.state os) a)

  commanded_so : (c : declared.Course) → Acts (alone old) (alone mid) commands (Ok c) (course_of mid.state)
      → Acts old mid tree (Ok (line.Came c)) (issued_beside mid.state os decks)
  commanded_so c a =
      commanded (Ok (line.Came c))
      (leaves_so old mid commands (λ x. Came (ended_with os x)) c (course_of mid.state) (line.Came c) (issued_of mid.state os) a
      (λ units. came_same mid.state os units c))

  commanded_off : (e : End) → Acts {T = declared.Course} (alone old) (alone mid) commands (Err e) (course_of mid.state)
      → Acts {T = declared_issued.Issued} old mid tree (Err e) (issued_beside mid.state os decks)
  commanded_off e a =
      commanded (Err e)
      (leaves_off {T = declared.Course} old mid commands (λ x. Came (ended_with os x)) e (course_of mid.state) (issued_of mid.state os) a)

-- ---- what asks or drops objects

module _ (a b : List Object) (decks : Decks) (old : SpotWith a) (mid : SpotWith b) (tree : List Slot → Act (Issued × Decks)) (runs : List Slot → Act Ended)
    (is : (units : List Slot) → holds old units → tree units ≡ leaving_decks decks (bind (runs units) came)) where
  ran : (r : Result declared_issued.Issued End) → Acts old mid (λ units. bind (runs units) came) r (issued_of mid.state b)
      → Acts old mid tree r (issued_beside mid.state b decks)
  ran r acts =
      acts_same old mid tree (λ units. leaving_decks decks (bind (runs units) came)) r (issued_beside mid.state b decks) is
      (decked old mid decks (λ units. bind (runs units) came) r (issued_of mid.state b) acts)

  pub ran_so : (c : declared.Course) → Acts old mid runs (Ok c) (ended_of mid.state b) → Acts old mid tree (Ok (line.Came c)) (issued_beside mid.state b decks)
  ran_so c acts =
      ran (Ok (line.Came c))
      (acts_done old mid (λ units. bind (runs units) came) (line.Came c) (issued_of mid.state b) (comes_in old mid runs came c (ended_of mid.state b) acts))

  pub ran_off : (e : End) → Acts {T = declared.Course} old mid runs (Err e) (ended_of mid.state b)
      → Acts {T = declared_issued.Issued} old mid tree (Err e) (issued_beside mid.state b decks)
  ran_off e acts = ran (Err e) (acts_stop old mid runs came e (ended_of mid.state b) (issued_of mid.state b) acts)

-- ---- a call of a procedure

started_done : (s : State) (os : List Object) (units : List Slot) (x : Started) → started os (started_of s units x) ≡ Done (issued_of s os units (issued_started x))
started_done s os units (call.Begun exec) = refl
started_done s os units (call.Refused c) = ap (λ (x : Issued). Done x) (came_same s os units c)

-- the call of one by this tree, where what the line comes to is that call
module _ (os : List Object) (decks : Decks) (old mid : SpotWith os) (tree : List Slot → Act (Issued × Decks)) (calls : List Slot → Act Starting)
    (is : (units : List Slot) → holds old units → tree units ≡ leaving_decks decks (bind (calls units) (started os))) where
  abbrev calling : List Slot → Act Issued
  calling units = bind (calls units) (started os)

  called : (r : Result declared_issued.Issued End) → Acts old mid calling r (issued_of mid.state os) → Acts old mid tree r (issued_beside mid.state os decks)
  called r a =
      acts_same old mid tree (λ units. leaving_decks decks (calling units)) r (issued_beside mid.state os decks) is
      (decked old mid decks calling r (issued_of mid.state os) a)

  pub call_so : (x : Started) (y : declared_issued.Issued) → Acts (alone old) (alone mid) calls (Ok x) (started_of mid.state) → y ≡ issued_started x
      → Acts old mid tree (Ok y) (issued_beside mid.state os decks)
  call_so x y a same =
      subst (λ (z : declared_issued.Issued). Acts old mid tree (Ok z) (issued_beside mid.state os decks)) (sym same)
      (called (Ok (issued_started x))
      (acts_done old mid calling (issued_started x) (issued_of mid.state os)
      (comes_then old mid mid calling (λ units. started os (started_of mid.state units x)) (λ units. Done (issued_of mid.state os units (issued_started x)))
      (comes_in old mid calls (started os) x (started_of mid.state) (acts_alone old mid calls (Ok x) (started_of mid.state) a))
      (comes_same mid (λ units. started os (started_of mid.state units x)) (λ units. Done (issued_of mid.state os units (issued_started x)))
      (λ units h. started_done mid.state os units x)))))

  pub call_off : (e : End) → Acts {T = Started} (alone old) (alone mid) calls (Err e) (started_of mid.state)
      → Acts {T = declared_issued.Issued} old mid tree (Err e) (issued_beside mid.state os decks)
  call_off e a =
      called (Err e)
      (acts_stop old mid calls (started os) e (started_of mid.state) (issued_of mid.state os)
      (acts_alone {T = Started} old mid calls (Err e) (started_of mid.state) a))

-- ---- what words ask for

none_first : (ts : List Token) → slice_get ts 0 ≡ None → ts ≡ []
none_first [] e = refl
none_first (t ∷ ts) e = absurd (cc e)

pub wordless : (os : List Object) (old : SpotWith os) (decks : Decks) (running : ℕ) (text : List ℕ) (ts : List Token) → slice_get ts 0 ≡ None
    → Acts old old (request_tree old.state os decks running text ts) (Ok (line.Came (course.Went (pos 0)))) (issued_beside old.state os decks)
wordless os old decks running text ts none =
    let no_words = none_first ts none in
    done_here old (request_tree old.state os decks running text ts) (line.Came (course.Went (pos 0))) (issued_beside old.state os decks) (λ units h. rw no_words refl)

asked_first : (d : Desk) (decks : Decks) (running : ℕ) (text : List ℕ) (ts : List Token) (first : Token) → slice_get ts 0 ≡ Some first
    → requested d decks running text ts ≡ request d decks running text ts first.text (request_of first.text)
asked_first d decks running text [] first at = absurd (cc at)
asked_first d decks running text (t ∷ ts) first at = let same : t ≡ first = cc at in rw same refl

module _ (os : List Object) (old : SpotWith os) (decks : Decks) (running : ℕ) (text : List ℕ) (ts : List Token) (first : Token) (at : slice_get ts 0 ≡ Some first) where
  abbrev asking : Request → List Slot → Act (Issued × Decks)
  asking q units = request (desk_of old.state os units) decks running text ts first.text q

  -- by what the first word asks for
  asks : (q kind : Request) → q ≡ request_of first.text → q ≡ kind → (units : List Slot) → holds old units
      → request_tree old.state os decks running text ts units ≡ asking kind units
  asks q kind is same units h =
      asked_first (desk_of old.state os units) decks running text ts first at ∙ ap (λ (x : Request). asking x units) (sym is ∙ same)

  pub exec_asked : (q : Request) → q ≡ request_of first.text → q ≡ ask.Exec → (units : List Slot) → holds old units
      → request_tree old.state os decks running text ts units ≡ leaving_decks decks (bind (exec_command running (machine_of old.state units) text ts) (started os))
  exec_asked q is exec units h = asks q ask.Exec is exec units h

  pub command_so : (mid : SpotWith os) (q : Request) (command : Command) (c : declared.Course) → q ≡ request_of first.text → q ≡ ask.Command command
      → Acts (alone old) (alone mid) (command_tree old.state text ts first.text command) (Ok c) (course_of mid.state)
      → Acts old mid (request_tree old.state os decks running text ts) (Ok (line.Came c)) (issued_beside mid.state os decks)
  command_so mid q command c is some a =
      commanded_so os decks old mid (request_tree old.state os decks running text ts) (command_tree old.state text ts first.text command)
      (asks q (ask.Command command) is some) c a

  pub command_off : (mid : SpotWith os) (q : Request) (command : Command) (e : End) → q ≡ request_of first.text → q ≡ ask.Command command
      → Acts {T = declared.Course} (alone old) (alone mid) (command_tree old.state text ts first.text command) (Err e) (course_of mid.state)
      → Acts {T = declared_issued.Issued} old mid (request_tree old.state os decks running text ts) (Err e) (issued_beside mid.state os decks)
  command_off mid q command e is some a =
      commanded_off os decks old mid (request_tree old.state os decks running text ts) (command_tree old.state text ts first.text command)
      (asks q (ask.Command command) is some) e a

  -- a command on cards, which leaves these decks
  abbrev dealing : CardCommand → List Slot → Act (Issued × Decks)
  dealing command units = bind (cards_tree old.state decks ts command units) (dealt_with os)

  abbrev dealt_so : Dealt → Issued × Decks
  dealt_so x = (Came (ended_with os x.course), x.decks)

  abbrev came_beside : Decks → Issued → Issued × Decks
  came_beside kept x = (x, kept)

  pub cards_so : (mid : SpotWith os) (kept : Decks) (q : Request) (command : CardCommand) (c : declared.Course) → q ≡ request_of first.text → q ≡ ask.Cards command
      → Acts (alone old) (alone mid) (cards_tree old.state decks ts command) (Ok c) (dealt_of mid.state kept)
      → Acts old mid (request_tree old.state os decks running text ts) (Ok (line.Came c)) (issued_beside mid.state os kept)
  cards_so mid kept q command c is some a =
      acts_same old mid (request_tree old.state os decks running text ts) (dealing command) (Ok (line.Came c)) (issued_beside mid.state os kept)
      (asks q (ask.Cards command) is some)
      (leaves_so old mid (cards_tree old.state decks ts command) dealt_so c (dealt_of mid.state kept) (line.Came c) (issued_beside mid.state os kept) a
      (λ units. ap (came_beside kept) (came_same mid.state os units c)))

  pub cards_off : (mid : SpotWith os) (kept : Decks) (q : Request) (command : CardCommand) (e : End) → q ≡ request_of first.text → q ≡ ask.Cards command
      → Acts {T = declared.Course} (alone old) (alone mid) (cards_tree old.state decks ts command) (Err e) (dealt_of mid.state kept)
      → Acts {T = declared_issued.Issued} old mid (request_tree old.state os decks running text ts) (Err e) (issued_beside mid.state os kept)
  cards_off mid kept q command e is some a =
      acts_same old mid (request_tree old.state os decks running text ts) (dealing command) (Err e) (issued_beside mid.state os kept)
      (asks q (ask.Cards command) is some)
      (leaves_off {T = declared.Course} old mid (cards_tree old.state decks ts command) dealt_so e (dealt_of mid.state kept) (issued_beside mid.state os kept) a)

  pub map_so : (mid : SpotWith os) (q : Request) (c : declared.Course) → q ≡ request_of first.text → q ≡ ask.Nucxmap
      → Acts (alone old) (alone mid) (nucxmap_tree old.state (words_of os) ts) (Ok c) (course_of mid.state)
      → Acts old mid (request_tree old.state os decks running text ts) (Ok (line.Came c)) (issued_beside mid.state os decks)
  map_so mid q c is some a =
      commanded_so os decks old mid (request_tree old.state os decks running text ts) (nucxmap_tree old.state (words_of os) ts) (asks q ask.Nucxmap is some) c a

  pub map_off : (mid : SpotWith os) (q : Request) (e : End) → q ≡ request_of first.text → q ≡ ask.Nucxmap
      → Acts {T = declared.Course} (alone old) (alone mid) (nucxmap_tree old.state (words_of os) ts) (Err e) (course_of mid.state)
      → Acts {T = declared_issued.Issued} old mid (request_tree old.state os decks running text ts) (Err e) (issued_beside mid.state os decks)
  map_off mid q e is some a =
      commanded_off os decks old mid (request_tree old.state os decks running text ts) (nucxmap_tree old.state (words_of os) ts) (asks q ask.Nucxmap is some) e a

  pub drop_so : (b : List Object) (mid : SpotWith b) (q : Request) (c : declared.Course) → q ≡ request_of first.text → q ≡ ask.Nucxdrop
      → Acts old mid (nucxdrop_tree old.state os ts) (Ok c) (ended_of mid.state b)
      → Acts old mid (request_tree old.state os decks running text ts) (Ok (line.Came c)) (issued_beside mid.state b decks)
  drop_so b mid q c is some a = ran_so os b decks old mid (request_tree old.state os decks running text ts) (nucxdrop_tree old.state os ts) (asks q ask.Nucxdrop is some) c a

  pub drop_off : (b : List Object) (mid : SpotWith b) (q : Request) (e : End) → q ≡ request_of first.text → q ≡ ask.Nucxdrop
      → Acts {T = declared.Course} old mid (nucxdrop_tree old.state os ts) (Err e) (ended_of mid.state b)
      → Acts {T = declared_issued.Issued} old mid (request_tree old.state os decks running text ts) (Err e) (issued_beside mid.state b decks)
  drop_off b mid q e is some a = ran_off os b decks old mid (request_tree old.state os decks running text ts) (nucxdrop_tree old.state os ts) (asks q ask.Nucxdrop is some) e a

-- ---- extensions

module _ (os : List Object) (old : SpotWith os) (decks : Decks) (running : ℕ) (text : List ℕ) (ts : List Token) (found : Option ℕ) (is : found ≡ extension_of os ts) where
  obeys : (x : Option ℕ) → found ≡ x → (units : List Slot) → holds old units
      → obey_tree old.state os decks running text ts units ≡ extended_or_requested (desk_of old.state os units) decks running text ts x
  obeys x same units h =
      ap (λ (y : Option ℕ). extended_or_requested (desk_of old.state os units) decks running text ts y) (sym is ∙ same)

  pub extension_so : (b : List Object) (mid : SpotWith b) (place : ℕ) (c : declared.Course) → found ≡ Some place
      → Acts old mid (run_tree old.state os place (Start text)) (Ok c) (ended_of mid.state b)
      → Acts old mid (obey_tree old.state os decks running text ts) (Ok (line.Came c)) (issued_beside mid.state b decks)
  extension_so b mid place c some a =
      ran_so os b decks old mid (obey_tree old.state os decks running text ts) (run_tree old.state os place (Start text)) (obeys (Some place) some) c a

  pub extension_off : (b : List Object) (mid : SpotWith b) (place : ℕ) (e : End) → found ≡ Some place
      → Acts {T = declared.Course} old mid (run_tree old.state os place (Start text)) (Err e) (ended_of mid.state b)
      → Acts {T = declared_issued.Issued} old mid (obey_tree old.state os decks running text ts) (Err e) (issued_beside mid.state b decks)
  extension_off b mid place e some a =
      ran_off os b decks old mid (obey_tree old.state os decks running text ts) (run_tree old.state os place (Start text)) (obeys (Some place) some) e a

  pub without_extension : (b : List Object) (mid : SpotWith b) (kept : Decks) (r : Result declared_issued.Issued End) → found ≡ None
      → Acts old mid (request_tree old.state os decks running text ts) r (issued_beside mid.state b kept)
      → Acts old mid (obey_tree old.state os decks running text ts) r (issued_beside mid.state b kept)
  without_extension b mid kept r none a =
      acts_same old mid (obey_tree old.state os decks running text ts) (request_tree old.state os decks running text ts) r (issued_beside mid.state b kept) (obeys None none) a

-- ---- lines

pub comment_issued : (os : List Object) (old : SpotWith os) (decks : Decks) (running : ℕ) (text : List ℕ) → is_comment text ≡ true
    → Acts old old (issue_tree old.state os decks running text) (Ok (line.Came (course.Went (pos 0)))) (issued_beside old.state os decks)
comment_issued os old decks running text is =
    done_here old (issue_tree old.state os decks running text) (line.Came (course.Went (pos 0))) (issued_beside old.state os decks) (λ units h. rw is refl)

-- the words of a line that is no comment
pub words_issued : (a b : List Object) (old : SpotWith a) (new : SpotWith b) (decks kept : Decks) (running : ℕ) (text : List ℕ) (ts : List Token) (r : Result declared_issued.Issued End)
    → is_comment text ≡ false → ts ≡ tokens_of text → Acts old new (obey_tree old.state a decks running text ts) r (issued_beside new.state b kept)
    → Acts old new (issue_tree old.state a decks running text) r (issued_beside new.state b kept)
words_issued a b old new decks kept running text ts r other are acts =
    acts_same old new (issue_tree old.state a decks running text) (obey_tree old.state a decks running text ts) r (issued_beside new.state b kept)
    (λ units h. rw (other, are) refl) acts

-- the test finds the procedure that the first word names
abbrev pub Finds : {os : List Object} → SpotWith os → List Token → Option FileName → Type 0
Finds old ts found = (s : Machine) → Shows old.state.table s → found ≡ called_by s ts

module _ (os : List Object) (old : SpotWith os) (decks : Decks) (running : ℕ) (text : List ℕ) (ts : List Token) (found : Option FileName) (are : ts ≡ tokens_of text) (finds : Finds old ts found) where
  abbrev taking_up : Option FileName → List Slot → Act (Issued × Decks)
  taking_up x units = called_or_obeyed (desk_of old.state os units) decks running text ts x

  found_is : (x : Option FileName) → found ≡ x → (units : List Slot) → holds old units → take_up_tree old.state os decks running text units ≡ taking_up x units
  found_is x is units h =
      ap (λ (words : List Token). called_or_obeyed (desk_of old.state os units) decks running text words (called_by (machine_of old.state units) words)) (sym are)
      ∙ ap (λ (y : Option FileName). taking_up y units) (sym (finds (machine_of old.state units) (holds_shows (alone old) units h)) ∙ is)

  pub procedure_taken : (f : FileName) → found ≡ Some f → (units : List Slot) → holds old units
      → take_up_tree old.state os decks running text units ≡ leaving_decks decks (bind (call_command running (machine_of old.state units) text ts f) (started os))
  procedure_taken f is units h = found_is (Some f) is units h

  pub command_taken : (b : List Object) (new : SpotWith b) (kept : Decks) (r : Result declared_issued.Issued End) → found ≡ None
      → Acts old new (obey_tree old.state os decks running text ts) r (issued_beside new.state b kept)
      → Acts old new (take_up_tree old.state os decks running text) r (issued_beside new.state b kept)
  command_taken b new kept r is a =
      acts_same old new (take_up_tree old.state os decks running text) (obey_tree old.state os decks running text ts) r (issued_beside new.state b kept) (found_is None is) a
