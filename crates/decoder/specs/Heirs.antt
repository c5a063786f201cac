-- Which places have an heir: a descendant found in the present dominant pass.
use Rattle.std.specs.Prelude.{ℕ, Bool, true, false, ◌&&◌, List, slice_index_or}
use Rattle.scan.specs.Tree.{descends}
use Rattle.stream.specs.Passes.{Mark, skipped, labelled, significant, zerotree_root, isolated_zero, is_fresh, some}

-- Some descendant among the first n places is found, by the marks of the pass.
unfoldable pub has_heir : ℕ → List Mark → ℕ → Bool
has_heir n marks p = some n (λ d. descends p d && is_fresh (slice_index_or marks d skipped))

-- The place is labelled isolated zero.
abbrev pub is_zero : Mark → Bool
is_zero skipped = false
is_zero (labelled (significant s)) = false
is_zero (labelled zerotree_root) = false
is_zero (labelled isolated_zero) = true
