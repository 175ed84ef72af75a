-- Records that are handed out one after another.
use Rattle.std.proofs.Common.{◌≡◌, ◌∙◌, ℕ, true, false, List, [], ◌∷◌, ◌++◌, Option, Some, None, Result, Ok, Err, refl, ap, sym, subst, append-nil, append_assoc}
use Rattle.std.specs.Option.{option_map}
use Rattle.cms_journal.specs.declared.event.Event.{Event}
use Rattle.cms_journal.specs.Journal.{Journal}
use Rattle.cms_journal.specs.Told.{Grown, Told, plus, typed}
use Rattle.cms_journal.proofs.Events.{all_join}
use Rattle.cms_journal.proofs.Pieces.{grown_same, plus-some, plus_plus, typed-append}
use Rattle.cms_model.specs.Beats.{IsTyped}
use Rattle.cms_model.specs.LawsUpdates.{after, now}
use Rattle.cms_model.specs.Trees.{Image, image_of}
use Rattle.cms_model.proofs.SettledUnits.{aside_is_as_before}
use Rattle.cms_names.specs.declared.name.Format.{Format}
use Rattle.cms_disk.specs.Cursors.{HasLeft, Cursor, text_of}
use Rattle.cms_line.specs.Typed.{TypedPart, TypedTo}
use Rattle.cms_line.proofs.TypedLines.{typed_none}
use Rattle.mini_forms.specs.Output.{one_written, written}
use Rattle.mini_forms.specs.declared.form.Form.{Form}
use Rattle.mini_host.specs.Files as files
use Rattle.mini_host.specs.Files.{Files, with_more}
use Rattle.mini_host.specs.declared.content.Draft.{Draft}
use Rattle.mini_work.specs.HandedFiles.{Puts, PutsOut, PutsPart}
use Rattle.mini_work.specs.declared.fault.Fault.{Fault}
use Rattle.mini_work.proofs.ReadOn.{ReadsNext, one_more}
use Rattle.mini_work.proofs.UnitStands.{typed_aside}
use Rattle.mini_work.specs.declared.handed_file.Way.{Way}
use Rattle.mini_work.specs.declared.handed_file.Way.TheVariants as ways

-- ---- what is typed

typed_whole : (es : List Event) (x : List ℕ) → typed es ++ [] ≡ x → typed es ≡ x
typed_whole es x is = sym (append-nil (typed es)) ∙ is

pub typed_join : (old mid new : Told) (x y : List ℕ) → TypedTo old mid x [] → TypedTo mid new y [] → TypedTo old new (x ++ y) []
typed_join old mid new x y p q = record {
  events = p.events ++ q.events;
  told = q.told ∙ ap (λ (j : Told). plus j q.events) p.told ∙ plus_plus old p.events q.events;
  only = all_join IsTyped p.events q.events p.only q.only;
  is = append-nil (typed (p.events ++ q.events)) ∙ typed-append p.events q.events
      ∙ ap (λ (z : List ℕ). z ++ typed q.events) (typed_whole p.events x p.is)
      ∙ ap (λ (z : List ℕ). x ++ z) (typed_whole q.events y q.is);
}

part_join : (old mid new : Told) (x y : List ℕ) → TypedTo old mid x [] → TypedPart mid new y → TypedPart old new (x ++ y)
part_join old mid new x y p q = (
  q.0,
  record {
    events = p.events ++ q.1.events;
    told = q.1.told ∙ ap (λ (j : Told). plus j q.1.events) p.told ∙ plus_plus old p.events q.1.events;
    only = all_join IsTyped p.events q.1.events p.only q.1.only;
    is = ap (λ (z : List ℕ). z ++ q.0) (typed-append p.events q.1.events)
        ∙ append_assoc (typed p.events) (typed q.1.events) q.0
        ∙ ap (λ (z : List ℕ). z ++ (typed q.1.events ++ q.0)) (typed_whole p.events x p.is)
        ∙ ap (λ (z : List ℕ). x ++ z) q.1.is;
  },
)

-- ---- what is written

more_none : (d : Option Draft) → option_map (with_more []) d ≡ d
more_none None = refl
more_none (Some d) =
    ap (λ (c : List ℕ). Some (record { file = record { name = d.file.name; content = c }; over = d.over })) (append-nil d.file.content)

more_then : (x y : List ℕ) (d : Option Draft) → option_map (with_more y) (option_map (with_more x) d) ≡ option_map (with_more (x ++ y)) d
more_then x y None = refl
more_then x y (Some d) =
    ap (λ (c : List ℕ). Some (record { file = record { name = d.file.name; content = c }; over = d.over })) (append_assoc d.file.content x y)

wrote_none : (h : Option Files) → option_map (files.written []) h ≡ h
wrote_none None = refl
wrote_none (Some f) =
    ap (λ (d : Option Draft). Some (record { files = f.files; folders = f.folders; left = f.left; draft = d; notes = f.notes })) (more_none f.draft)

wrote_then : (x y : List ℕ) (h : Option Files) → option_map (files.written y) (option_map (files.written x) h) ≡ option_map (files.written (x ++ y)) h
wrote_then x y None = refl
wrote_then x y (Some f) =
    ap (λ (d : Option Draft). Some (record { files = f.files; folders = f.folders; left = f.left; draft = d; notes = f.notes })) (more_then x y f.draft)

-- ---- what goes either way

pub puts_none : (way : Way) (told : Told) (h : Option Files) → PutsOut way told told h h []
puts_none ways.Output told h = (typed_none told [], refl)
puts_none ways.File told h = (refl, sym (wrote_none h))

pub puts_then : (way : Way) (old mid new : Told) (h k l : Option Files) (x y : List ℕ) → PutsOut way old mid h k x → PutsOut way mid new k l y
    → PutsOut way old new h l (x ++ y)
puts_then ways.Output old mid new h k l x y p q = (typed_join old mid new x y p.0 q.0, q.1 ∙ p.1)
puts_then ways.File old mid new h k l x y p q = (q.0 ∙ p.0, q.1 ∙ ap (λ (z : Option Files). option_map (files.written y) z) p.1 ∙ wrote_then x y h)

pub part_then : (way : Way) (old mid new : Told) (h k : Option Files) (x y : List ℕ) → PutsOut way old mid h k x → PutsPart way mid new y
    → PutsPart way old new (x ++ y)
part_then ways.Output old mid new h k x y p q = part_join old mid new x y p.0 q
part_then ways.File old mid new h k x y p q = q ∙ p.0

pub part_none : (way : Way) (told : Told) (bytes : List ℕ) → PutsPart way told told bytes
part_none ways.Output told bytes = (bytes, typed_none told bytes)
part_none ways.File told bytes = refl

-- a front of them is a front of more
pub part_longer : (way : Way) (old new : Told) (x y : List ℕ) → PutsPart way old new x → PutsPart way old new (x ++ y)
part_longer ways.Output old new x y p = (
  p.0 ++ y,
  record {
    events = p.1.events;
    told = p.1.told;
    only = p.1.only;
    is = sym (append_assoc (typed p.1.events) p.0 y) ∙ ap (λ (z : List ℕ). z ++ y) p.1.is;
  },
)
part_longer ways.File old new x y p = p

pub part_whole : (way : Way) (old new : Told) (h k : Option Files) (x : List ℕ) → PutsOut way old new h k x → PutsPart way old new x
part_whole ways.Output old new h k x p = ([], p.0)
part_whole ways.File old new h k x p = p.0

-- ---- what is put out leaves the unit alone

pub stays_there : (way : Way) (mid new : Told) (k l : Option Files) (bytes : List ℕ) (at : Journal) (u : ℕ) → mid ≡ Some at
    → PutsOut way mid new k l bytes → (later : Journal) × (new ≡ Some later) × (now later u ≡ now at u)
stays_there ways.Output mid new k l bytes at u is p =
    let before = aside_is_as_before at p.0.events u (typed_aside u p.0.events p.0.only) in
    (after at p.0.events, p.0.told ∙ ap (λ (t : Told). plus t p.0.events) is ∙ plus-some at p.0.events, ap image_of before.contents_same)
stays_there ways.File mid new k l bytes at u is p = (at, p.0 ∙ is, refl)

-- ---- the records one after another

-- of the records that were left so many were read, and exactly what the form writes of them was put out
abbrev pub PutsTo : Way → Form → Format → Told → Told → Option Files → Option Files → Cursor → Cursor → Type 0
PutsTo way form format old told h k first c =
    (j : Journal) (records : List (List ℕ)) → old ≡ Some j → HasLeft (now j first.unit) first records
    → (done : List (List ℕ)) × (left : List (List ℕ)) × (records ≡ done ++ left) × (at : Journal) × (told ≡ Some at)
    × (now at first.unit ≡ now j first.unit) × HasLeft (now j first.unit) c left × PutsOut way old told h k (written form format done)

pub puts_first : (way : Way) (form : Form) (format : Format) (told : Told) (h : Option Files) (c : Cursor) → PutsTo way form format told told h h c c
puts_first way form format told h c = λ j records is has. ([], records, refl, j, is, refl, has, puts_none way told h)

written_more : (form : Form) (format : Format) (done : List (List ℕ)) (text : List ℕ)
    → written form format (done ++ text ∷ []) ≡ written form format done ++ one_written form format text
written_more form format [] text = append-nil (one_written form format text)
written_more form format (x ∷ done) text =
    ap (λ (z : List ℕ). one_written form format x ++ z) (written_more form format done text)
    ∙ sym (append_assoc (one_written form format x) (written form format done) (one_written form format text))

written_both : (form : Form) (format : Format) (done left : List (List ℕ))
    → written form format (done ++ left) ≡ written form format done ++ written form format left
written_both form format [] left = refl
written_both form format (x ∷ done) left =
    ap (λ (z : List ℕ). one_written form format x ++ z) (written_both form format done left)
    ∙ sym (append_assoc (one_written form format x) (written form format done) (written form format left))

pub puts_next : (way : Way) (form : Form) (format : Format) (old mid new : Told) (h k l : Option Files) (first c next : Cursor) (bytes : List ℕ)
    → PutsTo way form format old mid h k first c → ReadsNext mid first c next true → bytes ≡ one_written form format (text_of next)
    → PutsOut way mid new k l bytes → PutsTo way form format old new h l first next
puts_next way form format old mid new h k l first c next bytes to reads is put = λ j records at has.
    let i = to j records at has in
    let r = reads i.3 i.1 i.4 (subst (λ (im : Image). HasLeft im c i.1) (sym i.5) i.6) in
    let s = stays_there way mid new k l bytes i.3 first.unit i.4 put in (
      i.0 ++ text_of next ∷ [],
      r.0,
      one_more i.0 r.0 (text_of next) records i.1 i.2 r.1,
      s.0,
      s.1,
      s.2 ∙ i.5,
      subst (λ (im : Image). HasLeft im next r.0) i.5 r.2,
      subst (λ (x : List ℕ). PutsOut way old new h l x)
          (ap (λ (z : List ℕ). written form format i.0 ++ z) is ∙ sym (written_more form format i.0 (text_of next)))
          (puts_then way old mid new h k l (written form format i.0) bytes i.7 put),
    )

-- all of them
pub puts_all : (way : Way) (form : Form) (format : Format) (old told : Told) (h k : Option Files) (first c next : Cursor)
    → PutsTo way form format old told h k first c → ReadsNext told first c next false
    → (j : Journal) (records : List (List ℕ)) → old ≡ Some j → HasLeft (now j first.unit) first records
    → PutsOut way old told h k (written form format records)
puts_all way form format old told h k first c next to reads = λ j records at has.
    let i = to j records at has in
    let r = reads i.3 i.1 i.4 (subst (λ (im : Image). HasLeft im c i.1) (sym i.5) i.6) in
    let all : i.0 ≡ records = sym (i.2 ∙ ap (λ (xs : List (List ℕ)). i.0 ++ xs) r.0 ∙ append-nil i.0) in
    subst (λ (xs : List (List ℕ)). PutsOut way old told h k (written form format xs)) all i.7

-- or a front of them, where a read failed
pub puts_stopped : (way : Way) (form : Form) (format : Format) (old told : Told) (h k : Option Files) (first c : Cursor)
    → PutsTo way form format old told h k first c → (j : Journal) (records : List (List ℕ)) → old ≡ Some j
    → HasLeft (now j first.unit) first records → PutsPart way old told (written form format records)
puts_stopped way form format old told h k first c to = λ j records at has.
    let i = to j records at has in
    let part = part_longer way old told (written form format i.0) (written form format i.1) (part_whole way old told h k (written form format i.0) i.7) in
    subst (λ (x : List ℕ). PutsPart way old told x)
    (sym (ap (λ (xs : List (List ℕ)). written form format xs) i.2 ∙ written_both form format i.0 i.1)) part

-- or where it wasn't put out whole
pub puts_broken : (way : Way) (form : Form) (format : Format) (old mid new : Told) (h k : Option Files) (first c next : Cursor) (bytes : List ℕ)
    → PutsTo way form format old mid h k first c → ReadsNext mid first c next true → bytes ≡ one_written form format (text_of next)
    → PutsPart way mid new bytes → (j : Journal) (records : List (List ℕ)) → old ≡ Some j → HasLeft (now j first.unit) first records
    → PutsPart way old new (written form format records)
puts_broken way form format old mid new h k first c next bytes to reads is part = λ j records at has.
    let i = to j records at has in
    let r = reads i.3 i.1 i.4 (subst (λ (im : Image). HasLeft im c i.1) (sym i.5) i.6) in
    let x = written form format i.0 in
    let front = subst (λ (z : List ℕ). PutsPart way old new z)
    (ap (λ (z : List ℕ). x ++ z) is ∙ sym (written_more form format i.0 (text_of next))) (part_then way old mid new h k x bytes i.7 part) in
    let longer = part_longer way old new (written form format (i.0 ++ text_of next ∷ [])) (written form format r.0) front in
    subst (λ (z : List ℕ). PutsPart way old new z)
    (sym (ap (λ (xs : List (List ℕ)). written form format xs) (one_more i.0 r.0 (text_of next) records i.1 i.2 r.1)
    ∙ written_both form format (i.0 ++ text_of next ∷ []) r.0)) longer

-- a journal goes on behind them
pub grown_put : {A : Type 0} (way : Way) (old new : Told) (h k : Option Files) (bytes : List ℕ) (r : Result A Fault) → Puts way old new h k bytes r
    → Grown old new
grown_put ways.Output old new h k bytes (Ok x) p = record { events = p.0.events; told = p.0.told }
grown_put ways.Output old new h k bytes (Err why) p = record { events = p.1.events; told = p.1.told }
grown_put ways.File old new h k bytes (Ok x) p = grown_same old new p.0
grown_put ways.File old new h k bytes (Err why) p = grown_same old new p
