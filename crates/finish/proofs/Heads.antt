-- How long a finished buffer's head is.
use Rattle.std.proofs.Common.{◌≡◌, ℕ, ◌+◌, Bool, true, false, cond, List, length, Option, refl, arith, length-append}
use lib.ListN.{length-replicate}
use Rattle.wire.specs.Bytes.{zeros}
use Rattle.model.specs.Finish.{finish_bytes, finish_padding, finish_space, identifier_bytes, prefix_bytes, rooted}

length_prefix : (b : Bool) (n : ℕ) → length (prefix_bytes b n) ≡ cond b 4 0
length_prefix true n = refl
length_prefix false n = refl

length_rooted : (root : ℕ) (id : List ℕ) (pad used : ℕ) → length (rooted root id pad used) ≡ 4 + (length id + pad)
length_rooted root id pad used =
    let z = length-replicate {A = ℕ} pad 0 in
    let s = length-append id (zeros pad) in
    omega arith

pub length_finish : (root : ℕ) (id : Option (List ℕ)) (prefixed : Bool) (used met : ℕ) → used + length (finish_bytes root id prefixed used met) ≡ finish_space id prefixed used met
length_finish root id prefixed used met =
    let pad = finish_padding id prefixed used met in
    let body : List ℕ = rooted root (identifier_bytes id) pad used in
    let r = length_rooted root (identifier_bytes id) pad used in
    let p = length_prefix prefixed (length body + used) in
    let s = length-append (prefix_bytes prefixed (length body + used)) body in
    omega arith
