-- The ranges within which words ask for things.
use Rattle.std.specs.Prelude.{◌≤◌, ⊤}
use Rattle.cms_fields.specs.Offsets.{IsOffset}
use Rattle.mini_forms.specs.Readers.{IsSize}
use Rattle.mini_forms.specs.RecordReads.{size_in, start_of}
use Rattle.mini_words.specs.declared.request.Request.{Request}
use Rattle.mini_words.specs.declared.request.Request.TheVariants.{List as AskList, Info, Get, Put, Erase, Rename, Make, Check, Dump}

-- what is asked for is within its ranges: how far civil time is ahead of the clock, and of host files the mode number and the size
-- of records
abbrev pub IsWithin : Request → Type 0
IsWithin (AskList image long names) = ⊤
IsWithin (Info image) = ⊤
IsWithin (Get get) = ⊤
IsWithin (Put put) = IsOffset put.offset × (put.number ≤ 6) × IsSize (size_in (start_of put.layout))
IsWithin (Erase image says offset names) = IsOffset offset
IsWithin (Rename image says offset from to) = IsOffset offset
IsWithin (Make image size blocks label offset) = IsOffset offset
IsWithin (Check image) = ⊤
IsWithin (Dump image blocks) = ⊤
