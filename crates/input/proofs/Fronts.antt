-- The first bytes of a reader that tells its bytes.
use Rattle.std.proofs.Common.{◌≡◌, ℕ, List, [], ◌++◌, take, IfSome, option_map, Option, Some, None}
use Rattle.std.specs.Io.Take.{take_limit, take_inner, take_remaining}
use Rattle.std.specs.declared.io.traits.Take.{Take}

mapped : (n : ℕ) (before after : List ℕ) (bytes : Option (List ℕ)) → before ≡ [] → IfSome (option_map (take n) bytes) (λ xs. after ≡ before ++ xs)
    → IfSome bytes (λ xs. after ≡ take n xs)
mapped n before after None e h = tt
mapped n before after (Some xs) e h = rw e at h

-- what is read behind nothing through a limit
pub front_read : {R : Type 0} (remaining : R → Option (List ℕ)) (limited : Take R) (reader : R) (n : ℕ) (before after : List ℕ)
    → IfSome (take_remaining remaining limited) (λ xs. after ≡ before ++ xs) → take_limit limited ≡ n → take_inner limited ≡ reader → before ≡ []
    → IfSome (remaining reader) (λ xs. after ≡ take n xs)
front_read remaining limited reader n before after h limit inner empty = mapped n before after (remaining reader) empty (rw (limit, inner) at h)
