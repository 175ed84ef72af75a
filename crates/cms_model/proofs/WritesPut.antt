-- The contents after an update, block by block.
use Rattle.std.proofs.Common.{◌≡◌, ◌≢◌, inl, inr, ℕ, ◌-◌, ◌≤◌, List, [], ◌∷◌, length, if◌then◌else◌, refl, sym, ◌∙◌, ap, subst, arith, slice_set, get_or-set_same}
use Rattle.std.specs.Prelude.{◌==◌}
use Rattle.std.proofs.lemmas.Bool.Decides.{eqb_tells}
use Rattle.cms_journal.specs.declared.event.Event.TheVariants.{Wrote}
use Rattle.cms_journal.specs.Journal.{Journal, contents, start_of}
use Rattle.cms_journal.proofs.Crashes.{length-contents}
use Rattle.cms_journal.proofs.Steps.{contents_wrote}
use Rattle.cms_model.specs.Lists.{In}
use Rattle.cms_model.specs.Trees.{Image, image_of}
use Rattle.cms_model.specs.Settled.{Agree, Write, Apart, writes, update}
use Rattle.cms_model.specs.LawsUpdates.{after, now, put_block, put_blocks, AreWithin, updated, PutsBlocks}
use Rattle.cms_model.proofs.OpenedVolumes.{open_keeps}
use Rattle.cms_model.proofs.InOrder.{frame_low}
use Rattle.cms_model.proofs.Images.{wrote_other}
use Rattle.cms_model.proofs.SettledUnits.{synced_now}
use Rattle.cms_model.proofs.Updates.{synced, labelled, update_is}

put_at : (image : List (List ℕ)) (k : ℕ) (bytes : List ℕ) → 1 ≤ k → k ≤ length image → image_of (slice_set image (k - 1) bytes) k ≡ bytes
unfolding image_of
put_at image k bytes low high = get_or-set_same image (k - 1) bytes [] (omega arith)

put_hit : (image : Image) (w : Write) (n : ℕ) → n ≡ w.block → put_block image w n ≡ w.bytes
put_hit image w n is = elim (eqb_tells n w.block) [ inl same ↦ let at = same.0 in rw at refl | inr other ↦ absurd (other.1 is) ]

put_miss : (image : Image) (w : Write) (n : ℕ) → n ≢ w.block → put_block image w n ≡ image n
put_miss image w n ne = elim (eqb_tells n w.block) [ inl same ↦ absurd (ne same.1) | inr other ↦ let at = other.0 in rw at refl ]

-- one write
wrote_put : (j : Journal) (u : ℕ) (w : Write) (n : ℕ) → 1 ≤ w.block → w.block ≤ length (start_of j.units u) → 1 ≤ n → now (after j (Wrote u w.block w.bytes ∷ [])) u n ≡ put_block (now j u) w n
wrote_put j u w n low high some = elim (eqb_tells n w.block) [
  | inl same ↦
      let start = start_of j.units u in
      ap (λ (blocks : List (List ℕ)). image_of blocks n) (contents_wrote j.events u w.block w.bytes start low)
      ∙ ap (image_of (slice_set (contents j.events u start) (w.block - 1) w.bytes)) same.1
      ∙ put_at (contents j.events u start) w.block w.bytes low (omega (arith, length-contents j.events u start))
      ∙ sym (put_hit (now j u) w n same.1)
  | inr other ↦ wrote_other j.events u w.block n w.bytes (start_of j.units u) some (λ is. other.1 (sym is)) ∙ sym (put_miss (now j u) w n other.1)
]

-- a block after writes rests on that block before them
put_same : (before later : Image) (w : Write) (n : ℕ) → before n ≡ later n → put_block before w n ≡ put_block later w n
put_same before later w n same = ap (λ (bytes : List ℕ). if n == w.block then w.bytes else bytes) same

puts_same : (before later : Image) (ws : List Write) (n : ℕ) → before n ≡ later n → put_blocks before ws n ≡ put_blocks later ws n
puts_same before later [] n same = same
puts_same before later (w ∷ ws) n same = puts_same (put_block before w) (put_block later w) ws n (put_same before later w n same)

pub writes_put : (j : Journal) (u : ℕ) (ws : List Write) (n : ℕ) → AreWithin (length (start_of j.units u)) ws → 1 ≤ n → now (after j (writes u ws)) u n ≡ put_blocks (now j u) ws n
unfolding writes
writes_put j u [] n within some = refl
writes_put j u (w ∷ ws) n within some =
    writes_put (after j (Wrote u w.block w.bytes ∷ [])) u ws n within.2 some
    ∙ puts_same (now (after j (Wrote u w.block w.bytes ∷ [])) u) (put_block (now j u) w) ws n (wrote_put j u w n within.0 within.1 some)

update_put : (j : Journal) (u : ℕ) (ws : List Write) (label : List ℕ) (n : ℕ) → AreWithin (length (start_of j.units u)) ws → 3 ≤ length (start_of j.units u) → 1 ≤ n
    → now (after j (update u ws label)) u n ≡ updated (now j u) ws label n
update_put j u ws label n within three some =
    let w : Write = record { block = 3; bytes = label } in
    let before = synced j u ws in
    ap (λ (k : Journal). now k u n) (update_is j u ws label)
    ∙ ap (λ (i : Image). i n) (synced_now (labelled j u ws label) u)
    ∙ wrote_put before u w n (omega arith) three some
    ∙ put_same (now before u) (now (after j (writes u ws)) u) w n (ap (λ (i : Image). i n) (synced_now (after j (writes u ws)) u))
    ∙ put_same (now (after j (writes u ws)) u) (put_blocks (now j u) ws) w n (writes_put j u ws n within some)

pub update_is_put : (j : Journal) (u : ℕ) (ws : List Write) (label : List ℕ) → AreWithin (length (start_of j.units u)) ws → 3 ≤ length (start_of j.units u) → PutsBlocks j u ws label
update_is_put j u ws label within three = record {
  written = λ n some. writes_put j u ws n within some;
  whole = λ n some. update_put j u ws label n within three some;
  opens = λ disk new opens. open_keeps disk (updated (now j u) ws label) (now (after j (update u ws label)) u) new opens
      (λ n in'. sym (update_put j u ws label n within three (let low = frame_low disk (updated (now j u) ws label) new opens n in' in omega arith)));
}

pub apart_is_kept : (image : Image) (ws : List Write) (ns : List ℕ) → Apart ws ns → Agree ns image (put_blocks image ws)
apart_is_kept image [] ns apart n in' = refl
apart_is_kept image (w ∷ ws) ns apart n in' =
    sym (put_miss image w n (λ is. apart.0 (subst (λ (x : ℕ). In x ns) is in'))) ∙ apart_is_kept (put_block image w) ws ns apart.1 n in'
