-- LISTFILE's lines, as they are typed and stacked.
use Rattle.std.proofs.Common.{◌≡◌, ◌∙◌, ℕ, Bool, true, false, List, [], ◌∷◌, ◌++◌, Result, Ok, Err, refl, sym, ap, subst}
use Rattle.std.specs.Prelude.{IfOk, if◌then◌else◌, pos, Option, Some, None}
use Rattle.std.specs.Option.{option_map_or}
use Rattle.cms_model.specs.Acts.{Act, Done, bind, saying, typed_line}
use Rattle.cms_files.specs.StackedLines.{stacking}
use Rattle.cms_files.specs.declared.stack.StackEnd.{StackEnd}
use Rattle.cms_search.specs.Calls.{Acts, Does, Spot, course_of, itself, machine_of, said}
use Rattle.cms_operands.specs.declared.refusal.Refusal.{Refusal}
use Rattle.cms_search.specs.Machine.{Machine, Went, typing}
use Rattle.cms_search.specs.Tables.{AccessTable}
use Rattle.cms_search.specs.declared.fault.SearchFault.{SearchFault}
use Rattle.cms_search.specs.declared.search.Found.{Found}
use Rattle.cms_search.specs.declared.state.Course as declared
use Rattle.cms_search.specs.declared.state.Course.TheVariants as course
use Rattle.cms_search.specs.declared.state.End.{End}
use Rattle.cms_world.specs.Seen.{Seen}
use Rattle.cms_search.proofs.Acts.{acts_same}
use Rattle.cms_search.proofs.LetterDisks.{holds_shows}
use Rattle.cms_search.proofs.Lined.{Reached, acts_typed, nothing, reached_none, reached_off, reached_on, reached_to, said_one, typing_more, typing_none, typing_then}
use Rattle.cms_search.proofs.Talks.{silent}
use Rattle.cms_files.specs.Updates.{went}
use Rattle.cms_files.proofs.Stacked.{stacks_none}
use Rattle.cms_listfile.specs.Lines.{header, line_to, lines_of, told_columns, years_of}
use Rattle.cms_listfile.specs.Listfile.{files_listed, with_header}
use Rattle.cms_listfile.specs.Told.{StacksFound, StacksLine, StacksListing, line_told, lines_told, listed_at}
use Rattle.cms_listfile.specs.declared.columns.Columns.{Columns}
use Rattle.cms_listfile.specs.declared.line.ListedFile.{ListedFile}
use Rattle.cms_listfile.specs.declared.listfile.Delivery.{Delivery}
use Rattle.cms_listfile.specs.declared.listfile.Delivery.TheVariants as goes
use Rattle.cms_listfile.specs.declared.listfile.ListLine.{ListLine}
use Rattle.cms_listfile.specs.declared.listfile.ListStyle.{ListStyle}
use Rattle.cms_listfile.proofs.Lines.{lines_shown}

-- ---- some lines, and then others

module _ (before mid now : Seen) (front lines : List (List ℕ)) where
  tree_more : Reached before before (typing (front ++ lines) nothing) (bind (typing front nothing) (λ (x : Unit {0}). typing lines nothing))
  tree_more = subst (λ (t : Act (Unit {0})). Reached before before (typing (front ++ lines) nothing) t) (typing_more front lines) (reached_none before (typing (front ++ lines) nothing))

  front_typed : (x : Unit {0}) → Does before mid (typing front nothing) (Ok x) said → Reached before mid (typing (front ++ lines) nothing) (bind (typing lines nothing) (λ (y : Unit {0}). nothing))
  front_typed x d =
      subst (λ (t : Act (Unit {0})). Reached before mid (typing (front ++ lines) nothing) t) (typing_then lines nothing)
      (reached_on before before mid (typing (front ++ lines) nothing) (typing front nothing) (λ (y : Unit {0}). typing lines nothing) x said tree_more d)

  pub both_typed : {T : Type 0} (x y : Unit {0}) (z : T) → Does before mid (typing front nothing) (Ok x) said → Does mid now (typing lines nothing) (Ok y) said
      → Does before now (typing (front ++ lines) nothing) (Ok z) said
  both_typed x y z a b =
      reached_to before now (typing (front ++ lines) nothing) z said
      (reached_on before mid now (typing (front ++ lines) nothing) (typing lines nothing) (λ (y : Unit {0}). nothing) y said (front_typed x a) b)

  pub lines_stop : {T : Type 0} (x : Unit {0}) (e : End) → Does before mid (typing front nothing) (Ok x) said → Does {T = Unit {0}} mid now (typing lines nothing) (Err e) said
      → Does {T = T} before now (typing (front ++ lines) nothing) (Err e) said
  lines_stop x e a b =
      reached_off before mid now (typing (front ++ lines) nothing) (typing lines nothing) (λ (y : Unit {0}). nothing) e said said (front_typed x a) b

pub front_stops : {T : Type 0} (before now : Seen) (front lines : List (List ℕ)) (e : End) → Does {T = Unit {0}} before now (typing front nothing) (Err e) said
    → Does {T = T} before now (typing (front ++ lines) nothing) (Err e) said
front_stops before now front lines e d =
    reached_off before before now (typing (front ++ lines) nothing) (typing front nothing) (λ (y : Unit {0}). typing lines nothing) e said said
    (tree_more before before now front lines) d

-- ---- the header

header_so : (b : Bool) (h : List ℕ) (lines : List (List ℕ)) → (if b then h ∷ [] else []) ++ lines ≡ (if b then h ∷ lines else lines)
header_so true h lines = refl
header_so false h lines = refl

pub header_before : (style : ListStyle) (lines : List (List ℕ)) → with_header style [] ++ lines ≡ with_header style lines
header_before style lines = header_so style.header (header style.columns) lines

-- ---- the listing

pub listing_typed : (old new : Spot) (style : ListStyle) (found : List Found) (r : Result declared.Course End)
    → Does old.world new.world (typing (with_header style (lines_told style.columns old.state.table found)) nothing) r said → IfOk r (λ c. c ≡ course.Went (pos 0))
    → new.state ≡ old.state
    → Acts old new (λ units. typing (with_header style (lines_of (machine_of old.state units) style.columns found)) (went (machine_of old.state units))) r (course_of new.state)
listing_typed old new style found r does is same =
    acts_same old new (λ units. typing (with_header style (lines_of (machine_of old.state units) style.columns found)) (went (machine_of old.state units)))
    (λ units. typing (with_header style (lines_told style.columns old.state.table found)) (Done (Went (machine_of old.state units) (pos 0)))) r (course_of new.state)
    (λ units h. ap (λ (l : List (List ℕ)). typing (with_header style l) (went (machine_of old.state units)))
    (lines_shown style.columns old.state.table (machine_of old.state units) found (holds_shows old units h)))
    (acts_typed old new (with_header style (lines_told style.columns old.state.table found)) r does is same)

pub listing_stacked : (old new : Spot) (end : StackEnd) (style : ListStyle) (found : List Found) (lines : List (List ℕ)) (r : Result declared.Course End)
    → lines ≡ with_header style [] ++ lines_told style.columns old.state.table found → Acts old new (λ units. stacking (machine_of old.state units) end lines) r (course_of new.state)
    → Acts old new (λ units. stacking (machine_of old.state units) end (with_header style (lines_of (machine_of old.state units) style.columns found))) r (course_of new.state)
listing_stacked old new end style found lines r is a =
    acts_same old new (λ units. stacking (machine_of old.state units) end (with_header style (lines_of (machine_of old.state units) style.columns found)))
    (λ units. stacking (machine_of old.state units) end lines) r (course_of new.state)
    (λ units h. ap (λ (l : List (List ℕ)). stacking (machine_of old.state units) end l)
    (ap (with_header style) (lines_shown style.columns old.state.table (machine_of old.state units) found (holds_shows old units h))
    ∙ sym (header_before style (lines_told style.columns old.state.table found)) ∙ sym is)) a

-- nothing is stacked
pub stacks_no_listing : (d : Delivery) (lines was : List (List ℕ)) → StacksListing d lines was was
stacks_no_listing goes.Typed lines was = refl
stacks_no_listing (goes.Stacked end) lines was = stacks_none end lines was
stacks_no_listing (goes.Written append) lines was = refl

pub stacks_no_file : (t : AccessTable) (style : ListStyle) (found : Result (List Found) SearchFault) (was : List (List ℕ)) → StacksFound t style found was was
stacks_no_file t style (Ok found) was = stacks_no_listing style.delivery (with_header style (lines_told style.columns t found)) was
stacks_no_file t style (Err fault) was = refl

pub stacks_no_line : (t : AccessTable) (s : Machine) (line : Result ListLine Refusal) (was : List (List ℕ)) → StacksLine t s line was was
stacks_no_line t s (Ok line) was = stacks_no_file t line.style (files_listed s line) was
stacks_no_line t s (Err why) was = refl

-- ---- a file's line

pub untold : (w : Seen) (last : Columns) (t : AccessTable) (found : Found) (x : Unit {0}) → listed_at t found ≡ None → Does w w (typing (line_told last t found) nothing) (Ok x) said
untold w last t found x none =
    let lines : line_told last t found ≡ [] = ap (λ (o : Option ListedFile). option_map_or (λ (f : ListedFile). line_to last (told_columns (years_of last) f) ∷ []) o []) none in
    subst (λ (l : List (List ℕ)). Does w w (typing l nothing) (Ok x) said) (sym lines)
    (subst (λ (a : Act (Unit {0})). Does w w a (Ok x) said) (sym typing_none) (silent w x))

pub told_line : (last : Columns) (t : AccessTable) (found : Found) (file : ListedFile) (line : List ℕ) → listed_at t found ≡ Some file → line ≡ line_to last (told_columns (years_of last) file)
    → line_told last t found ≡ line ∷ []
told_line last t found file line at is =
    ap (λ (o : Option ListedFile). option_map_or (λ (f : ListedFile). line_to last (told_columns (years_of last) f) ∷ []) o []) at ∙ ap (λ (l : List ℕ). l ∷ []) (sym is)

-- the header's
pub header_said : (before now : Seen) (style : ListStyle) (line : List ℕ) (r : Result (Unit {0}) End) → style.header ≡ true → line ≡ header style.columns
    → Does before now (saying (typed_line line)) r itself → Does before now (typing (with_header style []) nothing) r said
header_said before now style line r on is d =
    said_one before now line (with_header style []) r
    (ap (λ (b : Bool). if b then header style.columns ∷ [] else []) on ∙ ap (λ (l : List ℕ). l ∷ []) (sym is)) d

pub header_unsaid : (w : Seen) (style : ListStyle) (x : Unit {0}) → style.header ≡ false → Does w w (typing (with_header style []) nothing) (Ok x) said
header_unsaid w style x off =
    subst (λ (l : List (List ℕ)). Does w w (typing l nothing) (Ok x) said) (sym (ap (λ (b : Bool). if b then header style.columns ∷ [] else []) off))
    (subst (λ (a : Act (Unit {0})). Does w w a (Ok x) said) (sym typing_none) (silent w x))
