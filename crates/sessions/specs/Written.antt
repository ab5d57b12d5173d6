-- Bytes put into a list from a place on: what a function promises that puts bytes. Assumes nothing.
use Rattle.std.specs.Prelude.{List, ◌++◌, ℕ, ◌+◌, length, take, drop}

unfoldable pub written : (bytes : List ℕ) → (at : ℕ) → (old : List ℕ) → List ℕ
written bytes at old = take at old ++ (bytes ++ drop (at + length bytes) old)
