-- Bytes written into a lent buffer at a place: all of them where there is room, else none.
use Rattle.std.specs.Prelude.{ℕ, ◌+◌, Bool, cond, List, ◌++◌, length, take, drop, Some, None, Option, nat_le}

-- xs stands from `at` on; all other bytes are the buffer's
abbrev pub written : List ℕ → ℕ → List ℕ → List ℕ
written buffer at xs = take at buffer ++ (xs ++ drop (at + length xs) buffer)

-- is there room for xs from `at` on?
abbrev pub fits : List ℕ → ℕ → List ℕ → Bool
fits buffer at xs = nat_le (at + length xs) (length buffer)

-- what the writer of xs leaves in the buffer
abbrev pub put : List ℕ → ℕ → List ℕ → List ℕ
put buffer at xs = cond (fits buffer at xs) (written buffer at xs) buffer

-- what the writer of xs answers: how many bytes it wrote, or none where the room was short
abbrev pub length_put : List ℕ → ℕ → List ℕ → Option ℕ
length_put buffer at xs = cond (fits buffer at xs) (Some (length xs)) None
