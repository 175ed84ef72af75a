-- What is gathered, and what is told, once a front was printed and more was done.
use Rattle.std.proofs.Common.{◌≡◌, ◌∙◌, ◌≤◌, ◌<◌, ◌+◌, ◌++◌, ℕ, List, [], ◌∷◌, length, take, drop, refl, sym, ap, subst, append_assoc, append-nil, inl, inr, arith, length-drop}
use Rattle.std.specs.Prelude.{Option, Some, None, IfSome, OnSome, ◌⊎◌}
use Rattle.std.proofs.Math.ListN.{take-append-drop}
use Rattle.std.proofs.lemmas.List.{drop_all, take_all, take-take, drop-take, drop-append-le, drop-drop, map-append}
use Rattle.cms_host.specs.Deeds.{then_done, MayDo, printing, Prints, PrintsThen}
use Rattle.cms_host.specs.declared.system.Deed.{Deed}
use Rattle.cms_host.specs.declared.system.Deed.TheVariants.{Printed}

then_nothing : (told : Option (List Deed)) → then_done told [] ≡ told
then_nothing None = refl
then_nothing (Some done) = ap (λ (xs : List Deed). Some xs) (append-nil done)

then_twice : (told : Option (List Deed)) (xs ys : List Deed) → then_done (then_done told xs) ys ≡ then_done told (xs ++ ys)
then_twice None xs ys = refl
then_twice (Some done) xs ys = ap (λ (zs : List Deed). Some zs) (append_assoc done xs ys)

-- what was done in two steps
two_steps : (xs ys : List Deed) (t t1 t2 : Option (List Deed)) → t1 ≡ then_done t xs → t2 ≡ then_done t1 ys → t2 ≡ then_done t (xs ++ ys)
two_steps xs ys t t1 t2 first second = second ∙ ap (λ (told : Option (List Deed)). then_done told ys) first ∙ then_twice t xs ys

-- and in three
three_steps : (xs ys zs : List Deed) (t t1 t2 t3 : Option (List Deed)) → t1 ≡ then_done t xs → t2 ≡ then_done t1 ys → t3 ≡ then_done t2 zs → t3 ≡ then_done t ((xs ++ ys) ++ zs)
three_steps xs ys zs t t1 t2 t3 first second third = two_steps (xs ++ ys) zs t t2 t3 (two_steps xs ys t t1 t2 first second) third

take_further : (xs : List ℕ) (p n : ℕ) → take p xs ++ take n (drop p xs) ≡ take (p + n) xs
take_further xs p n =
    ap (λ (front : List ℕ). front ++ take n (drop p xs)) (sym (take-take p (p + n) xs (omega arith)))
    ∙ ap (λ (rest : List ℕ). take p (take (p + n) xs) ++ rest) (sym (drop-take p n xs))
    ∙ take-append-drop p (take (p + n) xs)

printing-append : (xs ys : List ℕ) → printing xs ++ printing ys ≡ printing (xs ++ ys)
printing-append xs ys = sym (map-append (λ byte. Printed byte) xs ys)

pub none_printed : (from : List ℕ) (t : Option (List Deed)) → t ≡ then_done t (printing (take 0 from))
none_printed from t = sym (then_nothing t)

pub printed_further : (from : List ℕ) (p n : ℕ) (t t1 t2 : Option (List Deed)) → t1 ≡ then_done t (printing (take p from)) → t2 ≡ then_done t1 (printing (take n (drop p from))) → t2 ≡ then_done t (printing (take (p + n) from))
printed_further from p n t t1 t2 first second =
    two_steps (printing (take p from)) (printing (take n (drop p from))) t t1 t2 first second
    ∙ ap (λ (deeds : List Deed). then_done t deeds) (printing-append (take p from) (take n (drop p from)) ∙ ap printing (take_further from p n))

pub ruleset front_lemmas = (none_printed, printed_further)

pub flush_kept : (bytes : List ℕ) (p n : ℕ) (t t1 : Option (List Deed)) → t1 ≡ then_done t (printing (take n (drop p bytes))) → Prints (drop p bytes) (drop (p + n) bytes) t t1
flush_kept bytes p n t t1 done = record {
  front = take n (drop p bytes);
  whole = sym (take-append-drop n (drop p bytes)) ∙ ap (λ (rest : List ℕ). take n (drop p bytes) ++ rest) (drop-drop n p bytes);
  done = done;
}

pub flush_done : (bytes new : List ℕ) (p n : ℕ) (t t1 : Option (List Deed)) → new ≡ [] → length bytes ≤ p + n → t1 ≡ then_done t (printing (take n (drop p bytes))) → Prints (drop p bytes) new t t1
flush_done bytes new p n t t1 none all done =
    subst (λ (rest : List ℕ). Prints (drop p bytes) rest t t1) (drop_all (p + n) bytes all ∙ sym none) (flush_kept bytes p n t t1 done)

pub some_left : (bytes : List ℕ) (n : ℕ) → n < length bytes → drop n bytes ≡ [] → ⊥
some_left bytes n less none = omega (arith, length-drop n bytes, ap length none)

pub none_left : (bytes : List ℕ) (n : ℕ) → length bytes ≤ n → drop n bytes ≡ []
none_left bytes n h = drop_all n bytes h

pub ruleset flush_lemmas = (flush_kept, flush_done, some_left, none_left)

pub added_behind : (bytes from : List ℕ) (n : ℕ) → n ≤ length bytes → drop n (bytes ++ from) ≡ drop n bytes ++ from
added_behind bytes from n inside = drop-append-le n bytes from inside

pub ruleset gather_lemmas = (added_behind)

printed_nothing : (old : List ℕ) (t : Option (List Deed)) → Prints old old t t
printed_nothing old t = record { front = []; whole = refl; done = sym (then_nothing t) }

pub just_gathered : (old from new : List ℕ) (t : Option (List Deed)) → new ≡ old ++ from → Prints (old ++ take (length from) from) new t t
just_gathered old from new t is =
    subst (λ (bytes : List ℕ). Prints (old ++ take (length from) from) bytes t t)
    (ap (λ (xs : List ℕ). old ++ xs) (take_all (length from) from (omega arith)) ∙ sym is)
    (printed_nothing (old ++ take (length from) from) t)

prints_behind : (old mid xs : List ℕ) (t t1 : Option (List Deed)) → Prints old mid t t1 → Prints (old ++ xs) (mid ++ xs) t t1
prints_behind old mid xs t t1 prints = record {
  front = prints.front;
  whole = ap (λ (bytes : List ℕ). bytes ++ xs) prints.whole ∙ append_assoc prints.front mid xs;
  done = prints.done;
}

pub flushed_gathered : (old mid from new : List ℕ) (t t1 : Option (List Deed)) → Prints old mid t t1 → new ≡ mid ++ from → Prints (old ++ take (length from) from) new t t1
flushed_gathered old mid from new t t1 prints is =
    subst (λ (bytes : List ℕ). Prints (old ++ take (length from) from) bytes t t1)
    (ap (λ (xs : List ℕ). mid ++ xs) (take_all (length from) from (omega arith)) ∙ sym is)
    (prints_behind old mid (take (length from) from) t t1 prints)

-- where all was printed the front is the whole
front_is_all : (old mid : List ℕ) (t t1 : Option (List Deed)) → mid ≡ [] → Prints old mid t t1 → t1 ≡ then_done t (printing old)
front_is_all old mid t t1 none prints =
    prints.done ∙ ap (λ (bytes : List ℕ). then_done t (printing bytes)) (sym (prints.whole ∙ ap (λ (rest : List ℕ). prints.front ++ rest) none ∙ append-nil prints.front))

printed_at_once : (n : ℕ) (old mid from new : List ℕ) (t t1 t2 : Option (List Deed)) → Prints old mid t t1 → mid ≡ [] → new ≡ mid → t2 ≡ then_done t1 (printing (take n from)) → Prints (old ++ take n from) new t t2
printed_at_once n old mid from new t t1 t2 prints none same done = record {
  front = old ++ take n from;
  whole = sym (ap (λ (rest : List ℕ). (old ++ take n from) ++ rest) (same ∙ none) ∙ append-nil (old ++ take n from));
  done = two_steps (printing old) (printing (take n from)) t t1 t2 (front_is_all old mid t t1 none prints) done
      ∙ ap (λ (deeds : List Deed). then_done t deeds) (printing-append old (take n from));
}

pub flushed_printed : (count : Option ℕ) (old mid from new : List ℕ) (t t1 t2 : Option (List Deed)) → Prints old mid t t1 → mid ≡ [] → new ≡ mid → IfSome count (λ n. t2 ≡ then_done t1 (printing (take n from))) → IfSome count (λ n. Prints (old ++ take n from) new t t2)
flushed_printed None old mid from new t t1 t2 prints none same done = tt
flushed_printed (Some n) old mid from new t t1 t2 prints none same done = printed_at_once n old mid from new t t1 t2 prints none same done

-- what is printed at once once all is printed that was gathered
pub printed_in_the_end : (count : Option ℕ) (old first mid from new : List ℕ) (t t1 t2 : Option (List Deed)) → first ≡ old → Prints first mid t t1 → mid ≡ [] → new ≡ mid → IfSome count (λ n. t2 ≡ then_done t1 (printing (take n from))) → IfSome count (λ n. Prints (old ++ take n from) new t t2)
printed_in_the_end count old first mid from new t t1 t2 was prints none same done =
    flushed_printed count old mid from new t t1 t2 (subst (λ (bytes : List ℕ). Prints bytes mid t t1) was prints) none same done

pub prints_same : (old mid new : List ℕ) (t t1 t2 : Option (List Deed)) → Prints old mid t t1 → new ≡ mid → t2 ≡ t1 → Prints old new t t2
prints_same old mid new t t1 t2 prints same told = record {
  front = prints.front;
  whole = prints.whole ∙ ap (λ (rest : List ℕ). prints.front ++ rest) (sym same);
  done = told ∙ prints.done;
}

pub ruleset add_lemmas = (just_gathered, flushed_gathered, flushed_printed, prints_same)

pub done_behind : (more : List Deed) (old mid new : List ℕ) (t t1 t2 : Option (List Deed)) → Prints old mid t t1 → mid ≡ [] → new ≡ mid → t2 ≡ then_done t1 more → PrintsThen more old new t t2
done_behind more old mid new t t1 t2 prints none same done = record {
  left = same ∙ none;
  done = two_steps (printing old) more t t1 t2 (front_is_all old mid t t1 none prints) done;
}

-- the same where there is an answer
pub some_behind : (count : Option ℕ) (more : List Deed) (old mid : List ℕ) (t t1 t2 : Option (List Deed)) → Prints old mid t t1 → mid ≡ [] → OnSome count (t2 ≡ then_done t1 more) → OnSome count (PrintsThen more old mid t t2)
some_behind None more old mid t t1 t2 prints none done = tt
some_behind (Some n) more old mid t t1 t2 prints none done = done_behind more old mid mid t t1 t2 prints none refl done

-- and where it may be done or not
pub may_behind : (more : List Deed) (old mid : List ℕ) (t t1 t2 : Option (List Deed)) → Prints old mid t t1 → mid ≡ [] → MayDo more t1 t2 → (Prints old mid t t2) ⊎ (PrintsThen more old mid t t2)
may_behind more old mid t t1 t2 prints none may =
    elim may [
      | inl same ↦ inl (prints_same old mid mid t t1 t2 prints refl same)
      | inr done ↦ inr (done_behind more old mid mid t t1 t2 prints none refl done)
    ]

-- an image is opened, locked and made
pub opened_so : (opened : Deed) (locked made : List Deed) (t t1 t2 t3 : Option (List Deed)) → t1 ≡ then_done t (opened ∷ []) → t2 ≡ then_done t1 locked → t3 ≡ then_done t2 made → t3 ≡ then_done t (opened ∷ (locked ++ made))
opened_so opened locked made t t1 t2 t3 first second third = three_steps (opened ∷ []) locked made t t1 t2 t3 first second third

-- three deeds, one after another
pub made_so : (sized synced folder : Deed) (t t1 t2 t3 : Option (List Deed)) → t1 ≡ then_done t (sized ∷ []) → t2 ≡ then_done t1 (synced ∷ []) → t3 ≡ then_done t2 (folder ∷ []) → t3 ≡ then_done t (sized ∷ synced ∷ folder ∷ [])
made_so sized synced folder t t1 t2 t3 first second third = three_steps (sized ∷ []) (synced ∷ []) (folder ∷ []) t t1 t2 t3 first second third

pub nothing_made : (t : Option (List Deed)) → t ≡ then_done t []
nothing_made t = sym (then_nothing t)

pub ruleset made_lemmas = (made_so, nothing_made, opened_so)

pub ruleset done_lemmas = (done_behind, prints_same)
