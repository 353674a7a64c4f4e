-- What contracts see of a space: its store, and the store's list in two parts.
use Rattle.std.specs.Prelude.{◌≡◌, ℕ, ◌+◌, ◌-◌, ◌≤◌, Bool, true, false, cond, List, [], ◌++◌, length, nat_le}
use Rattle.wire.specs.Bytes.{front, last, raised, unspent, zeros}

pub record Parts (S : Type 0) : Type 0 where
  -- the store
  pub allocator : S
  -- the unused front of its list
  pub rest : List ℕ
  -- the used bytes behind it, the newest first
  pub taken : List ℕ
  -- how long the list may become
  pub limit : ℕ

-- The parts of a store's list of which the last `used` bytes are used. They are defined whatever the count is; a space keeps it at most the list's length.
abbrev pub parts_of : {S : Type 0} → (list : S → List ℕ) (limit : S → ℕ) → S → (used : ℕ) → Parts S
parts_of list limit store used = record {
  allocator = store;
  rest = front used (list store);
  taken = last used (list store);
  limit = limit store;
}

module _ {S : Type 0} where
  -- how long the store's list is
  abbrev pub held : Parts S → ℕ
  held s = length s.rest + length s.taken

  -- What making room for `want` more bytes does; ok says whether there is room now.
  pub record Spaced (before after : Parts S) (ok : Bool) (want : ℕ) : Type 0 where
    pub answer : ok ≡ nat_le (length before.taken + want) before.limit
    pub kept : after.taken ≡ before.taken
    pub unused : after.rest ≡ raised (length after.rest) before.rest
    pub limited : after.limit ≡ before.limit
    pub room : ok ≡ true → want ≤ length after.rest
    pub full : ok ≡ false → held after ≡ before.limit
    pub enough : want ≤ length before.rest → after.rest ≡ before.rest

  -- What putting bytes in front of the used ones does where the list has room for them already; ok says whether it had.
  pub record Placed (before after : Parts S) (ok : Bool) (bytes : List ℕ) : Type 0 where
    pub answer : ok ≡ nat_le (length bytes) (length before.rest)
    pub used : after.taken ≡ cond ok bytes [] ++ before.taken
    pub unused : after.rest ≡ cond ok (front (length bytes) before.rest) before.rest
    pub limited : after.limit ≡ before.limit

  -- What taking space for the bytes and writing them there does; ok says whether that was done.
  pub record Prepended (before after : Parts S) (ok : Bool) (bytes : List ℕ) : Type 0 where
    pub answer : ok ≡ nat_le (length before.taken + length bytes) before.limit
    pub used : after.taken ≡ cond ok bytes [] ++ before.taken
    pub unused : after.rest ≡ unspent (length after.rest) (cond ok (length bytes) 0) before.rest
    pub limited : after.limit ≡ before.limit
    pub full : ok ≡ false → held after ≡ before.limit
    pub still : length bytes ≤ length before.rest → held after ≡ held before

  -- What giving bytes back does: the first `count` used ones, or all where there are fewer, are zeroed and part of the unused front again.
  pub record Released (before after : Parts S) (back : ℕ) (left : List ℕ) : Type 0 where
    pub used : after.taken ≡ left
    pub unused : after.rest ≡ before.rest ++ zeros back
    pub limited : after.limit ≡ before.limit

  -- What a call leaves of the store's list in front of the used bytes, and how long the list is then. The call asked for a used space of `need` bytes
  -- and gave back `back` of them, zeroed; refused says that the store refused.
  pub record Fronted (before after : Parts S) (need back : ℕ) (refused : Bool) : Type 0 where
    pub unused : after.rest ≡ unspent (length after.rest - back) (length after.taken + back - length before.taken) before.rest ++ zeros back
    -- the list grows only where it is too short, and then far enough, or to the limit where the store refuses
    pub still : need ≤ held before → held after ≡ held before
    pub grown : refused ≡ false → need ≤ held after
    pub full : refused ≡ true → held after ≡ before.limit
    pub limited : after.limit ≡ before.limit
