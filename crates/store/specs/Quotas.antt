-- Which refusal a store under a quota gives.
use Rattle.std.specs.Prelude.{Bool, true, false, Ok, Err, Result}
use Rattle.store.specs.declared.quota.QuotaError.{QuotaError}
use Rattle.store.specs.declared.quota.QuotaError.TheVariants.{Reached, Store}

-- the refusal says that the quota is reached
abbrev pub says_reached : {T E : Type 0} → Result T (QuotaError E) → Bool
says_reached (Ok x) = false
says_reached (Err Reached) = true
says_reached (Err (Store e)) = false

-- P where the quota is reached, so that the store below is not asked, else Q
abbrev pub Below : {T E : Type 0} → Result T (QuotaError E) → Type 0 → Type 0 → Type 0
Below (Ok x) P Q = Q
Below (Err Reached) P Q = P
Below (Err (Store e)) P Q = Q
