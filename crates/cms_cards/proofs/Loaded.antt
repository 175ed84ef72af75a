-- A deck is loaded as the file whose dump it is.
use Rattle.std.proofs.Common.{◌≡◌, ℕ, zero, suc, ◌+◌, ◌<◌, ◌≤◌, Bool, true, false, List, [], ◌∷◌, ◌++◌, length, take, drop, get_or, refl, sym, ◌∙◌, ap, subst, arith, append_assoc, Option, Some, None, Result, Ok, Err}
use Rattle.std.specs.Prelude.{IfOk, cond, is_some}
use Rattle.std.specs.declared.alloc.AllocError.{AllocError}
use Rattle.std.specs.Bool.{Decides}
use Rattle.std.specs.Option.{option_and_then, option_map}
use Rattle.std.proofs.lemmas.List.{drop_at, get_or-drop, length-take, take_at}
use Rattle.std.proofs.lemmas.Option.{cond_some, option_and_then_some}
use Rattle.std.proofs.lemmas.Slice.Eq.{bytes_eq-Decides, slice_eq-Decides}
use Rattle.cms_model.specs.LawsRecords.{AreBytes}
use Rattle.cms_model.specs.Minidisks.{File}
use Rattle.cms_model.specs.Records.{StandsFor, stored}
use Rattle.cms_model.specs.declared.file.FileData.{FileData}
use Rattle.cms_names.specs.declared.name.Name.{Name}
use Rattle.cms_cards.specs.Dumps.{AreOf, IsDumpOf, IsFile, LoadsDumps, cards_of, data_text, deck_text, dump, dump_text, dumped_onto, file_behind, file_in, file_of, header_of, load, same_cards}
use Rattle.cms_cards.specs.Headers.{header_bytes, header_in}
use Rattle.cms_cards.specs.Stored.{filling}
use Rattle.cms_cards.specs.declared.header.Header.{Header}
use Rattle.cms_cards.proofs.Cards.{cards_text, zeros_behind}
use Rattle.cms_cards.proofs.FilledRecords.{Filled, filling_filled, stored_filling}
use Rattle.cms_cards.proofs.Headers.{IsHeader, header_back, header_read, length-header, word_few}

-- ---- decks that are compared

pub cards_decide : (a b : List (List ℕ)) → Decides (same_cards a b) (a ≡ b)
cards_decide a b = slice_eq-Decides bytes_eq-Decides a b (same_cards a b) refl

-- a file is taken exactly where its dump is the deck
pub dumped_is : (deck : List (List ℕ)) (f : File) → dump f ≡ deck → dumped_onto deck f ≡ Some f
dumped_is deck f is = rw ((cards_decide (dump f) deck).1 is) refl

pub is_dumped : (deck : List (List ℕ)) (f g : File) → dumped_onto deck f ≡ Some g → (dump f ≡ deck) × (f ≡ g)
is_dumped deck f g is =
    let both = cond_some (same_cards (dump f) deck) f g is in
    ((cards_decide (dump f) deck).0 both.0, both.1)

pub not_dumped : (deck : List (List ℕ)) (f : File) → (dump f ≡ deck → ⊥) → dumped_onto deck f ≡ None
not_dumped deck f differ = go (same_cards (dump f) deck) (cards_decide (dump f) deck)
  where
    go : (b : Bool) → Decides b (dump f ≡ deck) → cond b (Some f) None ≡ None
    go true d = absurd (differ (d.0 refl))
    go false d = refl

-- ---- bytes of a text

are_behind : (n : ℕ) (text : List ℕ) → AreBytes text → AreBytes (drop n text)
are_behind n text are = λ k. rw get_or-drop (are (n + k))

are_front : (n : ℕ) (text : List ℕ) → AreBytes text → AreBytes (take n text)
are_front zero [] are = λ k. omega arith
are_front (suc n) [] are = λ k. omega arith
are_front zero (c ∷ text) are = λ k. omega arith
are_front (suc n) (c ∷ text) are = each (are_front n text (λ j. are (suc j)))
  where
    each : AreBytes (take n text) → (k : ℕ) → get_or (c ∷ take n text) k 0 < 256
    each rest zero = are zero
    each rest (suc k) = rest k

-- ---- a file that is dumped is loaded

header_is : (f : File) → IsFile f → IsHeader (header_of f)
header_is f is = record {
  file = is.file_part;
  kind = is.kind_part;
  number = is.number_fits;
  low = is.length_fits.0;
  high = is.length_fits.1;
  some = is.some;
  stamp = is.stamp_is;
}

text_again : (f : File) (rest : List ℕ) → IsFile f → file_in (dump_text f ++ rest) ≡ Some f
unfolding file_in
text_again f rest is =
    let h : Header = header_of f in
    let bytes : List ℕ = stored f.format f.records in
    let regroup : dump_text f ++ rest ≡ header_bytes h ++ (bytes ++ rest) = append_assoc (header_bytes h) bytes rest in
    let found : header_in (header_bytes h ++ (bytes ++ rest)) ≡ Some h = header_back h (bytes ++ rest) (header_is f is) is.few is.small in
    let behind : drop 37 (header_bytes h ++ (bytes ++ rest)) ≡ bytes ++ rest = drop_at (header_bytes h) (bytes ++ rest) 37 (length-header h is.file_part is.kind_part) in
    let front : take (length bytes) (bytes ++ rest) ≡ bytes = take_at bytes rest (length bytes) refl in
    let filled : filling f.format f.length (length f.records) bytes ≡ Some f.records = stored_filling f.format f.length f.records is.each is.length_is in
    rw (regroup, found, behind, front, filled) refl

dump_again : (f : File) → IsFile f → file_in (deck_text (dump f)) ≡ Some f
unfolding dump
dump_again f is = ap file_in (cards_text (dump_text f)) ∙ text_again f (zeros_behind (dump_text f)) is

dump_loads : (deck : List (List ℕ)) (f : File) → IsFile f → dump f ≡ deck → load deck ≡ Some f
unfolding load
dump_loads deck f is same =
    let read : file_in (deck_text deck) ≡ Some f = ap (λ (d : List (List ℕ)). file_in (deck_text d)) (sym same) ∙ dump_again f is in
    ap (option_and_then (dumped_onto deck)) read ∙ dumped_is deck f same

-- ---- what is loaded is a file

-- a text's header and records are a file's
pub record IsIn (text : List ℕ) (h : Header) (records : List (List ℕ)) : Type 0 where
  pub header : header_in text ≡ Some h
  pub filled : filling h.format h.length h.count (take h.stored (drop 37 text)) ≡ Some records

map_some : {A B P : Type 0} (f : A → B) (o : Option A) (y : B) → option_map f o ≡ Some y → ((x : A) → o ≡ Some x → f x ≡ y → P) → P
map_some f (Some x) y e go = go x refl (cc)
map_some f None y e go = absurd (cc)

-- a file that is read is that of some header and records
record IsOf (text : List ℕ) (f : File) : Type 0 where
  header : Header
  records : List (List ℕ)
  within : IsIn text header records
  same : file_of header records ≡ f

file_is_in : (text : List ℕ) (f : File) → file_in text ≡ Some f → IsOf text f
unfolding file_in
file_is_in text f is =
    option_and_then_some (file_behind (drop 37 text)) (header_in text) f is (λ h h_is e.
    map_some (file_of h) (filling h.format h.length h.count (take h.stored (drop 37 text))) f e (λ records r_is same.
    record { header = h; records = records; within = record { header = h_is; filled = r_is }; same = same }))

-- records of a header's file, in its stored bytes
pub in_filled : (text : List ℕ) (h : Header) (records : List (List ℕ)) → AreBytes text → IsIn text h records
    → Filled h.format h.length h.count (take h.stored (drop 37 text)) records
in_filled text h records are i =
    filling_filled h.format h.length h.count (take h.stored (drop 37 text)) records (are_front h.stored (drop 37 text) (are_behind 37 text are)) i.filled

is_file : (text : List ℕ) (h : Header) (records : List (List ℕ)) → AreBytes text → IsIn text h records → IsFile (file_of h records)
is_file text h records are i =
    let read = header_read text h i.header in
    let r = read.is in
    let some = r.some in
    let filled = in_filled text h records are i in
    let count = filled.count_is in
    let counted = read.count_is in
    let wide = read.stored_is in
    let few = word_few text 22 (are_behind 22 text are) in
    let small = word_few text 26 (are_behind 26 text are) in
    let bytes : List ℕ = take h.stored (drop 37 text) in
    let size : length bytes ≡ length (stored h.format records) = ap length filled.bytes_are in
    let cut : length bytes ≤ h.stored = omega (arith, length-take h.stored (drop 37 text)) in
    record {
      file_part = r.file;
      kind_part = r.kind;
      number_fits = r.number;
      each = filled.each;
      length_is = filled.length_is;
      length_fits = (r.low, r.high);
      some = omega arith;
      few = omega arith;
      small = omega arith;
      stamp_is = r.stamp;
    }

loaded_file : (deck : List (List ℕ)) (f : File) → AreBytes (deck_text deck) → load deck ≡ Some f → IsFile f × (dump f ≡ deck)
unfolding load
loaded_file deck f are is =
    option_and_then_some (dumped_onto deck) (file_in (deck_text deck)) f is (λ g g_is e.
    let both = is_dumped deck g f e in
    let found = file_is_in (deck_text deck) g g_is in
    let good : IsFile g = subst IsFile found.same (is_file (deck_text deck) found.header found.records are found.within) in
    subst (λ (x : File). IsFile x × (dump x ≡ deck)) both.1 (good, both.0))

pub loads_dumps : LoadsDumps
loads_dumps deck f are = (loaded_file deck f are, λ both. dump_loads deck f both.0 both.1)

-- ---- the calls

-- what is said of data is said of the file that they are
pub dump_of : (name : Name) (f : FileData) (deck : List (List ℕ)) → deck ≡ cards_of (data_text name f) → IsDumpOf name f deck
unfolding dump
dump_of name f deck is = λ records s.
    let count = s.count_is in
    let bytes = s.bytes_are in
    is ∙ ap cards_of (rw (count, bytes) refl)

-- the data that a header and stored bytes are
abbrev pub data_of : Header → List ℕ → FileData
data_of h bytes = record { format = h.format; length = h.length; number = h.number; stamp = h.stamp; count = h.count; bytes = bytes }

-- stand for the records that fill them
pub data_stands : (h : Header) (bytes : List ℕ) (records : List (List ℕ)) → IsHeader h → Filled h.format h.length h.count bytes records → StandsFor (data_of h bytes) records
data_stands h bytes records is filled =
    let some = is.some in
    let count = filled.count_is in
    record {
      bytes_are = filled.bytes_are;
      each = filled.each;
      length_is = filled.length_is;
      length_fits = (is.low, is.high);
      count_is = sym filled.count_is;
      some = omega arith;
      number_fits = is.number;
      stamp_is = is.stamp;
    }

-- what a text on cards is
pub deck_dumped : (r : Result (List (List ℕ)) AllocError) (name : Name) (f : FileData) (text : List ℕ) → text ≡ data_text name f
    → IfOk r (λ deck. deck ≡ cards_of text) → IfOk r (IsDumpOf name f)
deck_dumped (Ok deck) name f text is made = dump_of name f deck (made ∙ ap cards_of is)
deck_dumped (Err e) name f text is made = tt

-- a header's file in its stored bytes, which are filled
pub behind_so : (bytes text : List ℕ) (h : Header) → header_in text ≡ Some h → AreBytes bytes → is_some (filling h.format h.length h.count (take h.stored bytes)) ≡ true
    → (data' : FileData) → data' ≡ data_of h (take h.stored bytes) → AreOf (file_behind bytes h) (Some (h.name, data'))
behind_so bytes text h is are some data' same =
    subst (λ (x : FileData). AreOf (file_behind bytes h) (Some (h.name, x))) (sym same) (go (filling h.format h.length h.count (take h.stored bytes)) refl some)
  where
    go : (o : Option (List (List ℕ))) → filling h.format h.length h.count (take h.stored bytes) ≡ o → is_some o ≡ true
        → AreOf (file_behind bytes h) (Some (h.name, data_of h (take h.stored bytes)))
    go None filled there = absurd (cc)
    go (Some records) filled there = (
      records,
      data_stands h (take h.stored bytes) records (header_read text h is).is
          (filling_filled h.format h.length h.count (take h.stored bytes) records (are_front h.stored bytes are) filled),
      ap (option_map (file_of h)) filled,
    )

-- the file of a text, whose header was read
pub in_so : (text rest : List ℕ) (h : Header) (r : Result (Option (Name × FileData)) AllocError) → Some h ≡ header_in text → rest ≡ drop 37 text
    → IfOk r (AreOf (file_behind rest h)) → IfOk r (AreOf (file_in text))
unfolding file_in
in_so text rest h r is rest_is a =
    subst (λ (o : Option Header). IfOk r (AreOf (option_and_then (file_behind (drop 37 text)) o))) is
    (subst (λ (b : List ℕ). IfOk r (AreOf (file_behind b h))) rest_is a)
