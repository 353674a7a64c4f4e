-- The calls of a builder, and what they reply.
use Rattle.std.specs.Prelude.{ℕ, Bool, List, Ok, Err, Option, Result}
use Rattle.std.specs.List.{AllByRecursion}
use Rattle.wire.specs.declared.refusal.Refusal.{Refusal}
use Rattle.wire.specs.Answers.{Why, erased}
use Rattle.wire.specs.Pushed.{Pushed, Layout, Of}

pub data Call : Type 0 where
  push : Pushed → Call
  -- differs: the value differs from the default
  push_slot : (slot : ℕ) (x : Pushed) (differs : Bool) → Call
  push_slot_always : (slot : ℕ) (x : Pushed) → Call
  start_table : Call
  end_table : (start : ℕ) → Call
  start_vector : (kind : Layout) (count : ℕ) → Call
  end_vector : (count : ℕ) → Call
  create_vector : (kind : Layout) (items : List Pushed) → AllByRecursion (Of kind) items → Call
  create_byte_string : List ℕ → Call
  create_string : List ℕ → Call
  create_shared_string : List ℕ → Call
  finish : (root : ℕ) (identifier : Option (List ℕ)) (prefixed : Bool) → Call
  required : (tab slot : ℕ) → Call
  reset : Call
  force_defaults : Bool → Call
  finished_data : Call

-- what an accepted call answers
pub data Reply : Type 0 where
  done : Reply
  at : (offset : ℕ) → Reply
  these : List ℕ → Reply

-- an answer of the code, without the store's own words
abbrev pub said : {A E : Type 0} → (A → Reply) → Result A (Refusal E) → Result Reply Why
said reply (Ok x) = Ok (reply x)
said reply (Err e) = Err (erased e)
