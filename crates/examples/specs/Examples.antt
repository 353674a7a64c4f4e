-- Worked examples of the builder's calls, computed from the model.
use Rattle.std.specs.Prelude.{◌≡◌, ℕ, ◌+◌, ◌-◌, true, false, not, List, [], ◌∷◌, ◌++◌, length, take, pos, Some, None, Ok, Err, Result, refl}
use Rattle.std.proofs.Common.{inl, inr}
use Rattle.std.specs.Float.{fin, binary32}
use Rattle.wire.specs.declared.refusal.Refusal.TheVariants.{Finished, NotFinished, Nested, NotOpen, Slot, Identifier, Offset, Text, MissingSlot, TooLong}
use Rattle.wire.proofs.Laws.{unsigned_law, float_law}
use Rattle.wire.specs.Answers.{Why}
use Rattle.wire.specs.Pushed.{Pushed, pushed, layout}
use Rattle.wire.specs.Scalars.{unsigned, float}
use Rattle.wire.specs.Words.{word}
use Rattle.model.specs.Calls.{Call, push, push_slot, start_table, end_table, start_vector, create_string, create_shared_string, finish, required, finished_data, Reply, at}
use Rattle.model.specs.State.{State, fresh}
use Rattle.model.specs.Steps.{after, answered, records, slot_word, vtable_offset}

-- the state after calls on a new builder over a store of 1,000 bytes, and what a further call is told
abbrev pub after_all : List Call → State → State
after_all [] s = s
after_all (c ∷ cs) s = after_all cs (after c s)

abbrev pub built : List Call → State
built cs = after_all cs (fresh 1000)

abbrev pub told : List Call → Call → Result Reply Why
told cs c = answered c (built cs)

abbrev pub u16 : ℕ → Pushed
u16 = pushed (unsigned 2) (unsigned_law 2 (inr (inl refl)))

-- f32 -0.0
abbrev pub minus_zero : Pushed
minus_zero = pushed (float 4 binary32) (float_law 4 binary32 refl (inr (inr (inl refl)))) (fin true 0 (pos 0))

-- a u16 at a slot, with default 0
abbrev pub given : (slot n : ℕ) → Call
given slot n = push_slot slot (u16 n) (not ((unsigned 2).equal n 0))

-- a table with u16 600 at slot 4, begun at so much used space
abbrev pub units : (start : ℕ) → List Call
units start = start_table ∷ given 4 600 ∷ end_table start ∷ []

-- the u16 at a slot of the table at an offset
abbrev pub shows : (tab slot : ℕ) → List ℕ → ℕ
shows t n us = word 2 us (length us - t + slot_word (vtable_offset t us) n us)

-- finished buffers
abbrev pub Buffers : Type 0
Buffers =
    ((built (start_table ∷ end_table 0 ∷ finish 4 None false ∷ [])).used
    ≡ 0x08 ∷ 0 ∷ 0 ∷ 0 ∷ 0x04 ∷ 0 ∷ 0x04 ∷ 0 ∷ 0x04 ∷ 0 ∷ 0 ∷ 0 ∷ [])
    × ((built (units 0 ++ finish 8 None false ∷ [])).used
    ≡ 0x0C ∷ 0 ∷ 0 ∷ 0 ∷ 0 ∷ 0 ∷ 0x06 ∷ 0 ∷ 0x08 ∷ 0 ∷ 0x06 ∷ 0 ∷ 0x06 ∷ 0 ∷ 0 ∷ 0 ∷ 0 ∷ 0 ∷ 0x58 ∷ 0x02 ∷ [])
    × (length (built (units 0 ++ finish 8 None true ∷ [])).used ≡ 24)
    × (take 4 (built (units 0 ++ finish 8 None true ∷ [])).used ≡ 0x14 ∷ 0 ∷ 0 ∷ 0 ∷ [])

-- Fields. Of three equal tables the third shares the vtable of the second: its word is -6.
abbrev pub Fields : Type 0
Fields =
    (let us = (built (units 0 ++ (units 14 ++ units 26))).used in
    (vtable_offset 8 us ≡ 14) × (vtable_offset 20 us ≡ 26) × (vtable_offset 32 us ≡ 26) × (take 4 us ≡ 0xFA ∷ 0xFF ∷ 0xFF ∷ 0xFF ∷ []))
    × (shows 8 4 (built (start_table ∷ given 4 1 ∷ given 4 2 ∷ end_table 0 ∷ [])).used ≡ 2)
    × (shows 8 4 (built (start_table ∷ given 4 7 ∷ given 4 0 ∷ end_table 0 ∷ [])).used ≡ 7)
    × (records (built (start_table ∷ push_slot 4 minus_zero (not ((float 4 binary32).equal (fin true 0 (pos 0)) (fin false 0 (pos 0)))) ∷ [])).nest ≡ [])

-- strings on a new builder; an equal one is shared
abbrev pub Strings : Type 0
Strings =
    ((built (create_string (0x66 ∷ 0x69 ∷ []) ∷ [])).used ≡ 0x02 ∷ 0 ∷ 0 ∷ 0 ∷ 0x66 ∷ 0x69 ∷ 0 ∷ 0 ∷ [])
    × ((built (create_string [] ∷ [])).used ≡ 0 ∷ 0 ∷ 0 ∷ 0 ∷ 0 ∷ 0 ∷ 0 ∷ 0 ∷ [])
    × (told (create_shared_string (0x66 ∷ []) ∷ []) (create_shared_string (0x66 ∷ [])) ≡ Ok (at 8))

-- what misuse is told
abbrev pub Told : Type 0
Told =
    (told [] finished_data ≡ Err NotFinished)
    × (told (start_table ∷ []) (create_string []) ≡ Err Nested)
    × (told [] (end_table 0) ≡ Err NotOpen)
    × (told (start_table ∷ []) (given 5 1) ≡ Err Slot)
    × (told [] (finish 8 (Some (1 ∷ [])) false) ≡ Err Identifier)
    × (told [] (finish 8 None false) ≡ Err Offset)
    × (told [] (create_string (0xFF ∷ [])) ≡ Err Text)
    × (told (units 0) (required 8 6) ≡ Err MissingSlot)
    × (told [] (start_vector (layout (unsigned 2) (unsigned_law 2 (inr (inl refl)))) 4294967296) ≡ Err TooLong)
    × (told (units 0 ++ finish 8 None false ∷ []) (push (u16 1)) ≡ Err Finished)
