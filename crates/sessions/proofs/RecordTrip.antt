-- Actions there and back: records that are written as document 01 says are read as the actions they were written from. Assumes nothing.
use mathlib.Core.Path.{◌≡◌, refl, ap, ◌∙◌}
use mathlib.Core.List.{List, [], ◌∷◌, ◌++◌}
use Prim.Native.Nat.{ℕ, zero, suc, ◌+◌, ◌*◌, ◌/◌, ◌%◌}
use native.Mathlib.Omega.{arith}
use lib.ListN.{length, get_or, drop}
use lib.Seq.{get_or-drop}
use Rattle.protocol.specs.declared.Action.{Action}
use Rattle.sessions.specs.File.{le16, le32, action_at, actions, actions_in, file_of, record_of_action, records_of_actions}
use Rattle.sessions.specs.Run.{actions_of}
use Rattle.sessions.proofs.TripLaws.{records_of}

-- the nine bytes of one action, whatever stands behind them
pub record_read_back : (a : Action) (rest : List ℕ) → action_at (record_of_action a ++ rest) 0 ≡ a
unfolding action_at le16 le32 record_of_action
record_read_back a rest =
    let c : a.cell % 256 + a.cell / 256 * 256 ≡ a.cell = omega arith in
    let v : a.value % 256 + a.value / 256 % 256 * 256 + a.value / 65536 % 256 * 65536 + a.value / 16777216 * 16777216 ≡ a.value = omega arith in
    rw (c, v)

-- what is read behind the first nine bytes is read in what they leave
module _ (s : List ℕ) where
  byte_behind : (at' at : ℕ) → at' ≡ at + 9 → get_or s at' 0 ≡ get_or (drop 9 s) at 0
  byte_behind at' at e = let f : 9 + at ≡ at' = omega arith in rw (get_or-drop, f)

  le16_behind : (at' at : ℕ) → at' ≡ at + 9 → le16 s at' ≡ le16 (drop 9 s) at
  unfolding le16
  le16_behind at' at e = rw (byte_behind at' at e, byte_behind (at' + 1) (at + 1) (omega arith))

  le32_behind : (at' at : ℕ) → at' ≡ at + 9 → le32 s at' ≡ le32 (drop 9 s) at
  unfolding le32
  le32_behind at' at e =
      let b : (k : ℕ) → get_or s (at' + k) 0 ≡ get_or (drop 9 s) (at + k) 0 = λ k. byte_behind (at' + k) (at + k) (omega arith) in
      rw (byte_behind at' at e, b 1, b 2, b 3)

  action_behind : (at : ℕ) → action_at s (at + 9) ≡ action_at (drop 9 s) at
  unfolding action_at
  action_behind at =
      let b : (k : ℕ) → get_or s (at + 9 + k) 0 ≡ get_or (drop 9 s) (at + k) 0 = λ k. byte_behind (at + 9 + k) (at + k) (omega arith) in
      let c = le16_behind (at + 9 + 3) (at + 3) (omega arith) in
      let v = le32_behind (at + 9 + 5) (at + 5) (omega arith) in
      rw (byte_behind (at + 9) at refl, b 1, b 2, c, v)

actions_behind : (s : List ℕ) (at n : ℕ) → actions s (at + 9) n ≡ actions (drop 9 s) at n
unfolding actions
actions_behind s at zero = refl
actions_behind s at (suc n) = rw (action_behind s at, actions_behind s (at + 9) n)

first_actions : (l : List Action) → actions (records_of_actions l) 0 (length l) ≡ l
unfolding actions records_of_actions record_of_action
first_actions [] = refl
first_actions (a ∷ l) = rw (record_read_back a (records_of_actions l), actions_behind (records_of_actions (a ∷ l)) 0 (length l), first_actions l)

length_records : (l : List Action) → length (records_of_actions l) ≡ 9 * length l
unfolding records_of_actions record_of_action
length_records [] = refl
length_records (a ∷ l) = omega (arith, length_records l)

-- the actions of such records are the actions they were written from
pub records_read_back : (l : List Action) → actions_in (records_of_actions l) ≡ l
records_read_back l =
    let n : length (records_of_actions l) / 9 ≡ length l = rw (length_records l) (omega arith) in
    rw n (first_actions l)

-- so the actions of a file with such records are those that its run performs
pub file_read_back : (rule boards cells : ℕ) (starting : List ℕ) (l : List Action) → length starting ≡ cells →
    actions_of (file_of rule boards cells starting (records_of_actions l)) ≡ l
file_read_back rule boards cells starting l n = ap actions_in (records_of rule boards cells starting (records_of_actions l) n) ∙ records_read_back l
