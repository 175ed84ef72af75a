-- Words with too few commas.
use Rattle.std.proofs.Common.{◌≡◌, ℕ, ◌+◌, List, [], length, Option, Some, None, refl, arith}
use Rattle.std.specs.Option.{option_and_then}
use Rattle.std.specs.List.{position_or_len}
use Rattle.std.proofs.lemmas.List.{drop_all}
use Rattle.cms_journal.specs.declared.event.Access.{Access}
use Rattle.cms_words.specs.Numbers.{device_of}
use Rattle.cms_words.specs.UnitWords.{bsize_of, access_of, named_unit, unit_word_of, is_comma, field, behind}

nothing_named : (a b : Option ℕ) (c : Option Access) → option_and_then (λ vdev. option_and_then (λ bsize. option_and_then (λ access. named_unit [] vdev bsize access) c) b) a ≡ None
nothing_named None b c = refl
nothing_named (Some v) None c = refl
nothing_named (Some v) (Some s) None = refl
nothing_named (Some v) (Some s) (Some access) = refl

-- a word with fewer than three commas
pub without_name : (word : List ℕ) → position_or_len is_comma (behind (behind word)) ≡ length (behind (behind word)) → unit_word_of word ≡ None
unfolding unit_word_of
without_name word h =
    let e : behind (behind (behind word)) ≡ [] = drop_all (position_or_len is_comma (behind (behind word)) + 1) (behind (behind word)) (omega arith) in
    rw e (nothing_named (device_of (field word)) (bsize_of (field (behind word))) (access_of (field (behind (behind word)))))
