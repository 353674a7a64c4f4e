-- Lists of bytes in memory order. A buffer grows at its front, so that positions are counted from the end.
use Rattle.std.specs.Prelude.{ℕ, ◌+◌, ◌-◌, ◌<◌, List, [], ◌∷◌, ◌++◌, length, take, drop, replicate}

-- n zero bytes
abbrev pub zeros : ℕ → List ℕ
zeros n = replicate n 0

-- the last n bytes, or all where there are fewer
abbrev pub last : ℕ → List ℕ → List ℕ
last n xs = drop (length xs - n) xs

-- what stands before the last n bytes
abbrev pub front : ℕ → List ℕ → List ℕ
front n xs = take (length xs - n) xs

-- xs with zero bytes set in front up to the length n
abbrev pub raised : ℕ → List ℕ → List ℕ
raised n xs = zeros (n - length xs) ++ xs

-- xs with the bytes from `start` on replaced by ys
abbrev pub written : List ℕ → ℕ → List ℕ → List ℕ
written xs start ys = take start xs ++ (ys ++ drop (start + length ys) xs)

-- what is left of xs once it is raised to n + k bytes and the last k of these are taken
abbrev pub unspent : ℕ → ℕ → List ℕ → List ℕ
unspent n k xs = take n (raised (n + k) xs)

-- xs with ys over its beginning, as far as both go
abbrev pub filled : List ℕ → List ℕ → List ℕ
filled xs ys = take (length xs) ys ++ drop (length ys) xs

-- every number is a byte
abbrev pub Octets : List ℕ → Type 0
Octets [] = Unit {0}
Octets (b ∷ bs) = (b < 256) × Octets bs
