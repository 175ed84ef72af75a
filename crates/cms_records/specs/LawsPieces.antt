-- What bytes tell of the record that they begin.
use Rattle.std.specs.Prelude.{◌≡◌, ℕ, suc, ◌+◌, ◌≤◌, ◌<◌, List, ◌∷◌, ◌++◌, length, take, drop, All, None, Some, Ok}
use Rattle.cms_names.specs.declared.name.Format.TheVariants.{V}
use Rattle.cms_model.specs.Records.{varying, stored, Fits}
use Rattle.cms_records.specs.Pieces.{record_size, text_in}
use Rattle.cms_records.specs.Scans.{filled_by}
use Rattle.cms_records.specs.Starts.{begins}

-- bytes that hold records of varying lengths, none above the longest, begin the first of them, and what stands behind it holds the others
abbrev pub FirstIsTold : Type 0
FirstIsTold =
    (bsize n place longest : ℕ) (bytes text : List ℕ) (more : List (List ℕ)) → varying bsize (suc n) place bytes ≡ Ok (text ∷ more)
    → length text ≤ longest
    → (record_size None longest place bytes ≡ Ok (Some (2 + length text))) × (text_in None (take (2 + length text) bytes) ≡ text)
    × (varying bsize n (place + (2 + length text)) (drop (2 + length text) bytes) ≡ Ok more)

-- where records are stored right behind those that bytes hold, with less than a block behind them, all bytes hold both, and the earlier ones
-- begin where they did, the later ones behind them
abbrev pub VaryingExtends : Type 0
VaryingExtends =
    (bsize size count : ℕ) (bytes rest : List ℕ) (records more : List (List ℕ))
    → varying bsize count 0 bytes ≡ Ok records → All (Fits V size) more → length rest < bsize
    → (varying bsize (count + length more) 0 ((take (filled_by records) bytes ++ stored V more) ++ rest)
    ≡ Ok (records ++ more))
    × (begins 0 (records ++ more) ≡ begins 0 records ++ begins (filled_by records) more)
