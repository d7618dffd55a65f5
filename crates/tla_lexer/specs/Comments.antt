-- Nested comments.
use Rattle.std.specs.Prelude.{ℕ, suc, ◌+◌, ◌-◌, Bool, ◌&&◌, if◌then◌else◌, ◌==◌, List, [], ◌∷◌, Option, Some, None}

-- `(*`
abbrev pub opens : ℕ → ℕ → Bool
opens b c = b == 40 && c == 42

-- `*)`
abbrev pub closes : ℕ → ℕ → Bool
closes b c = b == 42 && c == 41

-- so many bytes more
abbrev pub longer : ℕ → Option ℕ → Option ℕ
longer n None = None
longer n (Some k) = Some (n + k)

-- The length of the rest of a comment, up to and with the `*)` that closes it, where this many comments are open in it; none where
-- it is not closed.
abbrev pub rest_len : ℕ → List ℕ → Option ℕ
rest_len depth [] = None
rest_len depth (b ∷ []) = None
rest_len depth (b ∷ c ∷ z) =
    let opened = longer 2 (rest_len (suc depth) z) in
    let closed = longer 2 (rest_len (depth - 1) z) in
    let passed = longer 1 (rest_len depth (c ∷ z)) in
    if opens b c then opened
    else (if closes b c then (if depth == 0 then Some 2 else closed) else passed)
