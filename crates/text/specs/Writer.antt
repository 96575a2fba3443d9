-- A writer of a lent buffer: what it leaves, and where it goes on.
use Rattle.std.specs.Prelude.{◌≡◌, ℕ, ◌+◌, ◌≤◌, cond, List, length}
use Rattle.text.specs.Buffer.{fits, put, written}
use Rattle.text.specs.declared.buffer.Writer.{Writer}

-- the same buffer with xs written where they fit, and the place behind them
pub record Puts (w : Writer) (xs : List ℕ) (w' : Writer) : Type 0 where
  pub same : w'.buffer.ghost_name ≡ w.buffer.ghost_name
  pub bytes : w'.buffer.now ≡ put w.buffer.now w.at xs
  pub at : w'.at ≡ cond (fits w.buffer.now w.at xs) (w.at + length xs) w.at

-- where there is room for xs: the same buffer with xs written, and the place behind them
pub record PutsInRoom (w : Writer) (xs : List ℕ) (w' : Writer) : Type 0 where
  pub same : w'.buffer.ghost_name ≡ w.buffer.ghost_name
  pub bytes : w.at + length xs ≤ length w.buffer.now → w'.buffer.now ≡ written w.buffer.now w.at xs
  pub at : w.at + length xs ≤ length w.buffer.now → w'.at ≡ w.at + length xs
