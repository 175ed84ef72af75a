-- An object that does exactly one thing does it by its test.
use Rattle.std.proofs.Common.{◌≡◌, ◌∙◌, ◌≤◌, ℕ, true, List, [], ◌∷◌, Result, Ok, Err, arith, refl, sym, ap}
use Rattle.std.specs.Prelude.{◌==◌, IfOk, OnErr, OnOk}
use Rattle.std.specs.Str.{bytes_eq}
use Rattle.std.specs.declared.alloc.AllocError.{AllocError}
use Rattle.std.proofs.lemmas.Bool.{eq-eqb}
use Rattle.std.proofs.lemmas.Cmp.{int_eq_equiv}
use Rattle.std.proofs.lemmas.Slice.Eq.{bytes_eq-Decides}
use Rattle.cms_model.proofs.ListChanges.{name_self}
use Rattle.cms_model.specs.Objects as machine
use Rattle.cms_model.specs.Objects.{Content, Reply, Want, Say, Ask, Get, Put, Ended}
use Rattle.cms_ext.specs.Exact.{Move, exactly, same_lines, same_want}
use Rattle.cms_ext.specs.Replies.{Answers, want_of}
use Rattle.cms_ext.specs.Tally.{count_in, counted, held, most, tally, tally_line}
use Rattle.cms_ext.specs.declared.extension.ExtReply.TheVariants.{Start}
use Rattle.cms_ext.specs.declared.extension.ExtWant as declared
use Rattle.cms_ext.specs.declared.extension.ExtWant.TheVariants as wants
use Rattle.cms_ext.proofs.Counts.{count_read}

same_bytes : (xs : List ℕ) → bytes_eq xs xs ≡ true
same_bytes xs = (bytes_eq-Decides xs xs).1 refl

pub lines_same : (xs : List (List ℕ)) → same_lines xs xs ≡ true
lines_same [] = refl
lines_same (x ∷ xs) = rw (same_bytes x, lines_same xs) refl

number_same : (n : ℕ) → (n == n) ≡ true
number_same n = eq-eqb n n refl

pub want_same : (w : Want) → same_want w w ≡ true
want_same (Say xs) = lines_same xs
want_same Ask = refl
want_same (Get name n) = rw (name_self name, number_same n) refl
want_same (Put name n records) = rw (name_self name, number_same n, lines_same records) refl
want_same (Ended code) = int_eq_equiv.refl code

-- what it does is by its test
pub moves : (step : Content → Reply → Move) (before : Content) (reply : Reply) (w : Want) (after : Content)
    → w ≡ (step before reply).want → after ≡ (step before reply).after → exactly step before reply w after ≡ true
moves step before reply w after wants holds =
    rw (wants, holds, want_same (step before reply).want, lines_same (step before reply).after) refl

-- a started tally
pub started : (n m : ℕ) (line : List ℕ) (r : Result declared.ExtWant AllocError) → n ≤ most
    → IfOk r (λ w. w ≡ wants.Say (tally_line (counted n) ∷ [])) → OnOk r (m ≡ counted n) → OnErr r (m ≡ n)
    → Answers (exactly tally) (held n) (Start line) (held m) r
started n m line (Ok w) few says counts kept =
    let read : count_in (held n) ≡ n = count_read n (omega (arith, few)) in
    record {
      wants = moves tally (held n) (machine.Start line) (want_of w) (held m)
          (ap want_of says ∙ ap (λ (k : ℕ). machine.Say (tally_line (counted k) ∷ [])) (sym read))
          (ap held (counts ∙ ap counted (sym read)));
      may = rw says tt;
      kept = tt;
    }
started n m line (Err e) few says counts kept = record { wants = tt; may = tt; kept = ap held kept }
