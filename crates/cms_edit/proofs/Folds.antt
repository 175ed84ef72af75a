-- The buffer behind turns is the fold of `edit` over the subcommands in them.
use Rattle.std.proofs.Common.{◌≡◌, ◌∙◌, ◌⊎◌, inl, inr, ⊎_elim, ℕ, suc, Bool, true, false, cond, List, [], ◌∷◌, ◌++◌, length, refl, sym, ap, subst, ℤ, pos, arith}
use Rattle.std.specs.Prelude.{Option, Some, None, ◌==◌, ◌&&◌, nat_le}
use Rattle.std.specs.Ordering.{int_eq}
use Rattle.std.specs.Str.{bytes_eq}
use Rattle.std.proofs.lemmas.Bool.{and_parts, both_ways, cond-true, cond_both, eq-eqb, eqb-true, false≢true, or_cases}
use Rattle.std.proofs.lemmas.Bool.Decides.{Decides-int_eq}
use Rattle.std.proofs.lemmas.Slice.Eq.{bytes_eq-Decides}
use Rattle.cms_text.specs.Texts.{Text}
use Rattle.cms_model.specs.Minidisks.{same_name}
use Rattle.cms_model.proofs.ListChanges.{name_from}
use Rattle.cms_line.specs.Tokens.{tokens_of}
use Rattle.cms_model.specs.Objects.{Content, Reply, Start, Sub, Went, Got, Refused, Want, Say, Ask, Get, Put, Ended}
use Rattle.cms_ext.specs.Exact.{Move, exactly, same_lines, same_want}
use Rattle.cms_edit.specs.declared.editor.Editor.{Editor}
use Rattle.cms_edit.specs.declared.editor.Phase.{Phase}
use Rattle.cms_edit.specs.declared.editor.Phase.TheVariants.{Idle, Asking, LoopSaid, Said, Saving, LoopSaving}
use Rattle.cms_edit.specs.declared.target.Target.{Target}
use Rattle.cms_edit.specs.Buffers.{Buffer, inserted, most_lines, removed, replaced}
use Rattle.cms_edit.specs.Edits as edits
use Rattle.cms_edit.specs.Edits.{Edited, change, changed_current, code_told, done_by, done_by_any, edit, edit_told, input, is_line, located, no_room, on_line, save, stays, unable, with_changed}
use Rattle.cms_edit.specs.Editors as editors
use Rattle.cms_edit.specs.Editors.{Answered, answered, asks, done, ends, got, held, is_end, opened, put_answered, puts, refused, says, sent, step, taken, told_line, told_text, went, with_buffer}
use Rattle.cms_edit.specs.LawsEdits.{Exchange, FoldsEdits, Follows, Given, Puts, PutsAre, Stands, Talk, folded, given_by, reply_in, subcommands}
use Rattle.cms_edit.specs.Subcommands.{Subcommand, Top, Bottom, Next, Up, TypeLines, Input, Replace, Delete, Locate, Change, Save, End, subcommand_of}
use Rattle.cms_edit.proofs.HeldEditors.{held_back}

-- ---- what the test of an exact object tells

lines_from : (xs ys : List (List ℕ)) → same_lines xs ys ≡ true → xs ≡ ys
lines_from [] [] h = refl
lines_from [] (y ∷ ys) h = absurd (false≢true h)
lines_from (x ∷ xs) [] h = absurd (false≢true h)
lines_from (x ∷ xs) (y ∷ ys) h =
    let both = and_parts (bytes_eq x y) (same_lines xs ys) h in
    ap (λ (z : List ℕ). z ∷ xs) ((bytes_eq-Decides x y).0 both.0) ∙ ap (λ (zs : List (List ℕ)). y ∷ zs) (lines_from xs ys both.1)

want_from : (a b : Want) → same_want a b ≡ true → a ≡ b
want_from (Say xs) (Say ys) h = ap (λ (z : List (List ℕ)). Say z) (lines_from xs ys h)
want_from Ask Ask h = refl
want_from (Get name n) (Get other m) h =
    let both = and_parts (same_name name other) (n == m) h in
    ap (λ z. Get z n) (name_from name other both.0) ∙ ap (λ (k : ℕ). Get other k) (eqb-true n m both.1)
want_from (Put name n xs) (Put other m ys) h =
    let both = and_parts (same_name name other) ((n == m) && same_lines xs ys) h in
    let rest = and_parts (n == m) (same_lines xs ys) both.1 in
    ap (λ z. Put z n xs) (name_from name other both.0)
    ∙ (ap (λ (k : ℕ). Put other k xs) (eqb-true n m rest.0) ∙ ap (λ (z : List (List ℕ)). Put other m z) (lines_from xs ys rest.1))
want_from (Ended a) (Ended b) h = ap (λ (z : ℤ). Ended z) ((Decides-int_eq a b).0 h)
want_from _ _ h = absurd (false≢true h)

tells : (does : Content → Reply → Move) (before : Content) (reply : Reply) (w : Want) (after : Content)
    → exactly does before reply w after ≡ true → (w ≡ (does before reply).want) × (after ≡ (does before reply).after)
tells does before reply w after h =
    let both = and_parts (same_want w (does before reply).want) (same_lines after (does before reply).after) h in
    (want_from w (does before reply).want both.0, lines_from after (does before reply).after both.1)

-- ---- what puts the buffer

module _ (b : Buffer) where
  put_cond : (t : Bool) (x y : Edited) → x.put ≡ false → y.put ≡ false → (cond t x y).put ≡ false
  put_cond true x y p q = p
  put_cond false x y p q = q

  on_line_put : (x : Edited) → x.put ≡ false → (on_line b x).put ≡ false
  on_line_put x p = put_cond (b.current == 0) (stays b unable) x refl p

  input_put : (text : Text) → (input b text).put ≡ false
  input_put text = put_cond (nat_le most_lines (length b.lines)) (stays b no_room) (edits.goes_on (inserted text b)) refl refl

  located_put : (place : Option ℕ) → (located b place).put ≡ false
  located_put None = refl
  located_put (Some place) = refl

  changed_put : (line : Option Text) → (with_changed b line).put ≡ false
  changed_put None = refl
  changed_put (Some line) = put_cond (is_line line) (edits.goes_on (replaced line b)) (stays b unable) refl refl

  change_put : (from to : Text) → (change b from to).put ≡ false
  change_put from to =
      put_cond (length from == 0) (stays b unable) (with_changed b (changed_current b from to)) refl (changed_put (changed_current b from to))

  buffer_cond : (t : Bool) (x y : Edited) → x.buffer ≡ b → y.buffer ≡ b → (cond t x y).buffer ≡ b
  buffer_cond true x y p q = p
  buffer_cond false x y p q = q

  save_buffer : (told : ℤ) → (save b told).buffer ≡ b
  save_buffer told =
      buffer_cond (length b.lines == 0) (stays b unable) (record { buffer = b; said = []; put = true; code = told }) refl refl

  -- a buffer that is put stays, whatever is told
  kept : (told : ℤ) (s : Option Subcommand) → (done_by_any b told s).put ≡ true → (other : ℤ) → (done_by_any b other s).buffer ≡ b
  unfolding done_by
  kept told None h other = refl
  kept told (Some Top) h other = absurd (false≢true h)
  kept told (Some Bottom) h other = absurd (false≢true h)
  kept told (Some (Next count)) h other = absurd (false≢true h)
  kept told (Some (Up count)) h other = absurd (false≢true h)
  kept told (Some (TypeLines count)) h other = absurd (false≢true h)
  kept told (Some (Input text)) h other = absurd (both_ways (input b text).put (input_put text) h)
  kept told (Some (Replace text)) h other =
      absurd (both_ways (on_line b (edits.goes_on (replaced text b))).put (on_line_put (edits.goes_on (replaced text b)) refl) h)
  kept told (Some (Delete count)) h other =
      absurd (both_ways (on_line b (edits.goes_on (removed count b))).put (on_line_put (edits.goes_on (removed count b)) refl) h)
  kept told (Some (Locate text)) h other = absurd (both_ways (edits.locate b text).put (located_put (edits.found_below b text)) h)
  kept told (Some (Change from to)) h other =
      absurd (both_ways (on_line b (change b from to)).put (on_line_put (change b from to) (change_put from to)) h)
  kept told (Some Save) h other = save_buffer other
  kept told (Some End) h other = absurd (false≢true h)

  -- the buffer goes by no reply
  same_buffer : (x y : ℤ) (s : Option Subcommand) → (done_by_any b x s).buffer ≡ (done_by_any b y s).buffer
  unfolding done_by
  same_buffer x y None = refl
  same_buffer x y (Some Save) = save_buffer x ∙ sym (save_buffer y)
  same_buffer x y (Some other) = refl

  -- END leaves it
  end_buffer : (told : ℤ) (s : Option Subcommand) → is_end s ≡ true → (done_by_any b told s).buffer ≡ b
  unfolding done_by
  end_buffer told None h = absurd (false≢true h)
  end_buffer told (Some End) h = refl
  end_buffer told (Some other) h = absurd (false≢true h)

-- a line of some bytes ends the loop where it spells END
spelled_end : (byte : ℕ) (bytes : Text) → ends (byte ∷ bytes) ≡ true → is_end (subcommand_of (byte ∷ bytes)) ≡ true
spelled_end byte bytes p =
    ⊎_elim (λ (z : (suc (length bytes) == 0) ≡ true). absurd (omega (arith, eqb-true (suc (length bytes)) 0 z))) (λ y. y)
    (or_cases (suc (length bytes) == 0) (is_end (subcommand_of (byte ∷ bytes))) p)

-- ---- one turn

-- a subcommand whose put isn't answered yet leaves the buffer, whatever is told
abbrev Keeps : Buffer → Text → Type 0
Keeps b line = (told : ℤ) → (edit_told b line told).buffer ≡ b

-- what the editor waits for behind a want
abbrev Awaits : Want → Editor → Type 0
Awaits (Say lines) e = (e.phase ≡ LoopSaid) ⊎ (e.phase ≡ Said)
Awaits Ask e = e.phase ≡ Asking
Awaits (Get name n) e = ⊥
Awaits (Put name n records) e =
    (line : Text) × Keeps e.buffer line × ((e.phase ≡ Saving line) ⊎ (e.phase ≡ LoopSaving line))
Awaits (Ended code) e = e.phase ≡ Idle

record Good (t : Target) (b : Buffer) (a : Answered) : Type 0 where
  file : a.after.file ≡ Some t
  buffer : a.after.buffer ≡ b
  awaits : Awaits a.want a.after
  puts : Puts t b a.want

module _ (t : Target) where
  good_cond : (b : Buffer) (test : Bool) (x y : Answered) → (test ≡ true → Good t b x) → (test ≡ false → Good t b y) → Good t b (cond test x y)
  good_cond b test x y p q = cond_both test x y (λ z. Good t b z) p q

  module _ (e : Editor) (f : e.file ≡ Some t) where
    done_good : (code : ℤ) → Good t e.buffer (done e code)
    done_good code = record { file = f; buffer = refl; awaits = refl; puts = tt }

    asks_good : Good t e.buffer (asks e)
    asks_good = record { file = f; buffer = refl; awaits = refl; puts = tt }

    loop_says_good : (lines : List Text) → Good t e.buffer (says e lines LoopSaid)
    loop_says_good lines = record { file = f; buffer = refl; awaits = inl refl; puts = tt }

    says_good : (lines : List Text) → Good t e.buffer (says e lines Said)
    says_good lines = record { file = f; buffer = refl; awaits = inr refl; puts = tt }

    puts_good : (line : Text) → Keeps e.buffer line → Good t e.buffer (puts e t (Saving line))
    puts_good line keeps = record { file = f; buffer = refl; awaits = (line, keeps, inl refl); puts = (refl, refl, refl) }

    loop_puts_good : (line : Text) → Keeps e.buffer line → Good t e.buffer (puts e t (LoopSaving line))
    loop_puts_good line keeps = record { file = f; buffer = refl; awaits = (line, keeps, inr refl); puts = (refl, refl, refl) }

    goes_on_good : (line : Text) (code : ℤ) → Good t e.buffer (editors.goes_on e line code)
    goes_on_good line code =
        good_cond e.buffer (int_eq code (pos 0)) (asks e) (says e (editors.complaint line ∷ []) LoopSaid)
        (λ _. asks_good) (λ _. loop_says_good (editors.complaint line ∷ []))

  module _ (e : Editor) (f : e.file ≡ Some t) (line : Text) (edited : Edited) (keeps : edited.put ≡ true → Keeps edited.buffer line) where
    abbrev now : Editor
    now = with_buffer e edited.buffer

    sent_good : Good t edited.buffer (sent e t line edited)
    sent_good =
        good_cond edited.buffer edited.put (puts now t (Saving line))
        (cond (length edited.said == 0) (done now edited.code) (says now edited.said Said))
        (λ p. puts_good now f line (keeps p))
        (λ _. good_cond edited.buffer (length edited.said == 0) (done now edited.code) (says now edited.said Said)
        (λ _. done_good now f edited.code) (λ _. says_good now f edited.said))

    taken_good : Good t edited.buffer (taken e t line edited)
    taken_good =
        good_cond edited.buffer edited.put (puts now t (LoopSaving line))
        (cond (length edited.said == 0) (editors.goes_on now line edited.code) (says now edited.said LoopSaid))
        (λ p. loop_puts_good now f line (keeps p))
        (λ _. good_cond edited.buffer (length edited.said == 0) (editors.goes_on now line edited.code) (says now edited.said LoopSaid)
        (λ _. goes_on_good now f line edited.code) (λ _. loop_says_good now f edited.said))

  module _ (e : Editor) (f : e.file ≡ Some t) where
    abbrev edited_by : Text → ℤ → Edited
    edited_by line told = edit_told e.buffer line told

    -- a subcommand that puts the buffer leaves it
    keeps_edited : (line : Text) (told : ℤ) → (edited_by line told).put ≡ true → Keeps (edited_by line told).buffer line
    keeps_edited line told p =
        let keeps : Keeps e.buffer line = kept e.buffer told (subcommand_of line) p in
        subst (λ (b : Buffer). Keeps b line) (sym (keeps told)) keeps

    text_good : (text : Text) (reply : Reply) → Good t (edit e.buffer text reply).buffer (told_text e (Some t) text)
    text_good text reply =
        subst (λ (b : Buffer). Good t b (told_text e (Some t) text)) (same_buffer e.buffer (pos 0) (code_told reply) (subcommand_of text))
        (sent_good e f text (edited_by text (pos 0)) (keeps_edited text (pos 0)))

    line_good : (line : Text) (reply : Reply) → Good t (folded e.buffer (given_by (Got line) reply)) (told_line e (Some t) line)
    line_good [] reply = done_good e f (pos 0)
    line_good (byte ∷ bytes) reply =
        let line = byte ∷ bytes in
        let b' = (edit e.buffer line reply).buffer in
        good_cond b' (ends line) (done e (pos 0)) (taken e t line (edited_by line (pos 0)))
        (λ (p : ends line ≡ true). subst (λ (b : Buffer). Good t b (done e (pos 0)))
        (sym (end_buffer e.buffer (code_told reply) (subcommand_of line) (spelled_end byte bytes p))) (done_good e f (pos 0)))
        (λ _. subst (λ (b : Buffer). Good t b (taken e t line (edited_by line (pos 0))))
        (same_buffer e.buffer (pos 0) (code_told reply) (subcommand_of line))
        (taken_good e f line (edited_by line (pos 0)) (keeps_edited line (pos 0))))

    saved_good : (line : Text) (told : ℤ) → Keeps e.buffer line → Good t e.buffer (put_answered e (Saving line) told)
    saved_good line told keeps =
        let edited = edited_by line told in
        subst (λ (b : Buffer). Good t b (put_answered e (Saving line) told)) (keeps told)
        (done_good (with_buffer e edited.buffer) f edited.code)

    loop_saved_good : (line : Text) (told : ℤ) → Keeps e.buffer line → Good t e.buffer (put_answered e (LoopSaving line) told)
    loop_saved_good line told keeps =
        let edited = edited_by line told in
        subst (λ (b : Buffer). Good t b (put_answered e (LoopSaving line) told)) (keeps told)
        (goes_on_good (with_buffer e edited.buffer) f line edited.code)

    -- what the editor comes to, being told what a session tells
    abbrev Comes : Reply → Reply → Type 0
    Comes reply next = Good t (folded e.buffer (given_by reply next)) (answered e reply)

    went_good : (lines : List Text) (next : Reply) → (e.phase ≡ LoopSaid) ⊎ (e.phase ≡ Said) → Comes Went next
    unfolding answered
    went_good lines next (inl p) = subst (λ (q : Phase). Good t e.buffer (went e q)) (sym p) (asks_good e f)
    went_good lines next (inr p) = subst (λ (q : Phase). Good t e.buffer (went e q)) (sym p) (done_good e f (pos 0))

    got_good : (line : Text) (next : Reply) → e.phase ≡ Asking → Comes (Got line) next
    unfolding answered
    got_good line next p =
        subst (λ (q : Phase). Good t (folded e.buffer (given_by (Got line) next)) (got e q line)) (sym p)
        (subst (λ (file : Option Target). Good t (folded e.buffer (given_by (Got line) next)) (told_line e file line)) (sym f) (line_good line next))

    put_good : (line : Text) (next : Reply) → Keeps e.buffer line → (e.phase ≡ Saving line) ⊎ (e.phase ≡ LoopSaving line) → Comes Went next
    unfolding answered
    put_good line next keeps (inl p) =
        subst (λ (q : Phase). Good t e.buffer (went e q)) (sym p) (saved_good line (pos 0) keeps)
    put_good line next keeps (inr p) =
        subst (λ (q : Phase). Good t e.buffer (went e q)) (sym p) (loop_saved_good line (pos 0) keeps)

    refused_good : (line : Text) (code : ℤ) (next : Reply) → Keeps e.buffer line → (e.phase ≡ Saving line) ⊎ (e.phase ≡ LoopSaving line)
        → Comes (Refused code) next
    unfolding answered
    refused_good line code next keeps (inl p) =
        subst (λ (q : Phase). Good t e.buffer (refused e q code)) (sym p) (saved_good line code keeps)
    refused_good line code next keeps (inr p) =
        subst (λ (q : Phase). Good t e.buffer (refused e q code)) (sym p) (loop_saved_good line code keeps)

    sub_good : (text : Text) (next : Reply) → Comes (Sub text) next
    unfolding answered
    sub_good text next =
        subst (λ (file : Option Target). Good t (edit e.buffer text next).buffer (told_text e file text)) (sym f) (text_good text next)

    start_good : (line : Text) (next : Reply) → length (tokens_of line) ≡ 1 → Comes (Start line) next
    unfolding answered
    start_good line next one =
        subst (λ (a : Answered). Good t e.buffer a)
        (sym (cond-true (length (tokens_of line) == 1) (opened e e.file) (editors.loading e (editors.target_of (tokens_of line)))
        (eq-eqb (length (tokens_of line)) 1 one)))
        (subst (λ (file : Option Target). Good t e.buffer (opened e file)) (sym f) (asks_good e f))

    told_good : (last : Want) (reply next : Reply) → Awaits last e → Follows last reply → Comes reply next
    told_good (Say lines) reply next a is = subst (λ (r : Reply). Comes r next) (sym is) (went_good lines next a)
    told_good Ask reply next a (line, is) = subst (λ (r : Reply). Comes r next) (sym is) (got_good line next a)
    told_good (Get name n) reply next a is = absurd a
    told_good (Put name n records) reply next a (inl is) =
        subst (λ (r : Reply). Comes r next) (sym is) (put_good a.0 next a.1 a.2)
    told_good (Put name n records) reply next a (inr (code, is)) =
        subst (λ (r : Reply). Comes r next) (sym is) (refused_good a.0 code next a.1 a.2)
    told_good (Ended code) reply next a (inl (text, is)) = subst (λ (r : Reply). Comes r next) (sym is) (sub_good text next)
    told_good (Ended code) reply next a (inr s) = subst (λ (r : Reply). Comes r next) (sym s.1) (start_good s.0 next s.2)

-- ---- all turns

folded-append : (b : Buffer) (gs hs : List Given) → folded b (gs ++ hs) ≡ folded (folded b gs) hs
folded-append b [] hs = refl
folded-append b (g ∷ gs) hs = folded-append (edit b g.line g.reply).buffer gs hs

talk_folds : (e : Editor) (t : Target) (last : Want) (xs : List Exchange) (after : Content)
    → e.file ≡ Some t → Awaits last e → Talk (exactly step) last (held e) xs after
    → Stands t (folded e.buffer (subcommands xs)) after × PutsAre t e.buffer xs
unfolding step
talk_folds e t last [] after f a is = (record { editor = e; content = sym is; file = f; buffer = refl }, tt)
talk_folds e t last (x ∷ xs) after f a (follows, (between, does, talk)) =
    let good = told_good t e f last x.told (reply_in xs) a follows in
    let told = tells step (held e) x.told x.want between does in
    let back = ap (λ (y : Editor). answered y x.told) (held_back e) in
    let want : x.want ≡ (answered e x.told).want = told.0 ∙ ap (λ (y : Answered). y.want) back in
    let next = (answered e x.told).after in
    let content : between ≡ held next = told.1 ∙ ap (λ (y : Answered). held y.after) back in
    let rest = talk_folds next t x.want xs after good.file
    (subst (λ (w : Want). Awaits w next) (sym want) good.awaits)
    (subst (λ (c : Content). Talk (exactly step) x.want c xs after) content talk) in
    let now = folded e.buffer (given_by x.told (reply_in xs)) in
    let same : next.buffer ≡ now = good.buffer in (
      subst (λ (b : Buffer). Stands t b after) (sym (folded-append e.buffer (given_by x.told (reply_in xs)) (subcommands xs)))
          (subst (λ (b : Buffer). Stands t (folded b (subcommands xs)) after) same rest.0),
      (
        subst (λ (w : Want). Puts t now w) (sym want) good.puts,
        subst (λ (b : Buffer). PutsAre t b xs) same rest.1,
      ),
    )

pub folds_edits : FoldsEdits
folds_edits e t code xs after idle f talk = talk_folds e t (Ended code) xs after f idle talk
