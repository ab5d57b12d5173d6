-- Soundness of a cell as the code judges it: the masks first, then each board. Assumes nothing.
use mathlib.Core.Path.{◌≡◌, refl, sym, ◌∙◌}
use mathlib.Core.Bool.{Bool, true, false, not, ◌&&◌, ◌||◌}
use Prim.Native.Nat.{ℕ, ◌+◌, ◌*◌, ◌^◌, ◌<◌, ◌≤◌}
use native.Mathlib.Omega.{arith}
use lib.Dec.{eqb, ltb, leb}
use lib.Count.{ones}
use lib.ListN.{get_or}
use borrow.Author.Tests.{ltb-true, ltb-false, le-ltb, leb-true, le-leb}
use Rattle.protocol.specs.Names.{rule_number, rule_of}
use Rattle.protocol.specs.Masks.{has_board}
use Rattle.protocol.specs.Slices.{Table, copies, main, masks}
use Rattle.protocol.specs.Cell.{Cell, copy_at, live_mask, dirty_mask, lock_mask, cell_of, current_value}
use Rattle.protocol.specs.Soundness.{Condition, no_bit_at_p_or_above, not_live_holds_0, lock_mask_is_0, dirty_is_live, one_dirty, live_is_current, one_lock, locked_is_only, dirty_is_locked}
use Rattle.protocol.specs.Soundness.{from, up_to, asked_by, every_board, meets, sound}
use Rattle.protocol.proofs.Booleans.{clash, not_so, and_left, and_right, and_both, board_at, board_of}
use Rattle.protocol.proofs.NumberLaws.{by_rule}
use Rattle.protocol.proofs.SoundExactly.{of_sound, sound_of}
use Rattle.table.specs.Code.{Ready, MasksAt, current_at, masks_sound, copy_sound, copies_sound}
use Rattle.protocol.specs.Masks.{within}
use Rattle.table.proofs.MaskTests.{within_boards, boards_within, alone_boards, boards_alone}
use Rattle.table.proofs.ReadyLaws.{copy_is, as_live, as_dirty, as_lock, current_is}

-- ---- what a rule asks, by its number

number_is : (rule : ℕ) → rule ≤ 4 → rule_number (rule_of rule) ≡ rule
unfolding rule_number rule_of
number_is = by_rule (λ (r : ℕ). rule_number (rule_of r) ≡ r) refl refl refl refl refl

asked : (rule : ℕ) → rule ≤ 4 → (c : Condition) → from c ≤ rule → rule ≤ up_to c → asked_by (rule_of rule) c ≡ true
unfolding asked_by
asked rule h c l u = rw (number_is rule h) (and_both (leb (from c) rule) (leb rule (up_to c)) (le-leb _ _ l) (le-leb _ _ u))

asks_from : (rule : ℕ) → rule ≤ 4 → (c : Condition) → asked_by (rule_of rule) c ≡ true → from c ≤ rule
unfolding asked_by
asks_from rule h c a = leb-true (from c) rule (and_left (leb (from c) rule) (leb rule (up_to c)) (rw (number_is rule h) at a))

asks_up_to : (rule : ℕ) → rule ≤ 4 → (c : Condition) → asked_by (rule_of rule) c ≡ true → rule ≤ up_to c
unfolding asked_by
asks_up_to rule h c a = leb-true rule (up_to c) (and_right (leb (from c) rule) (leb rule (up_to c)) (rw (number_is rule h) at a))

-- `ltb a b || c` says: from b on, c
from_on : (a b : ℕ) (c : Bool) → (ltb a b || c) ≡ true → b ≤ a → c ≡ true
from_on a b c e l = rw (le-ltb a b l) at e

only_from : (a b : ℕ) (c : Bool) → (b ≤ a → c ≡ true) → (ltb a b || c) ≡ true
only_from a b c f = go (ltb a b) refl
  where
    go : (d : Bool) → ltb a b ≡ d → (d || c) ≡ true
    go true e = refl
    go false e = f (ltb-false a b e)

-- ---- no bit at P or above

abbrev bits_below : (P live dirty lock : ℕ) → Bool
bits_below P live dirty lock = ltb live (2 ^ P) && ltb dirty (2 ^ P) && ltb lock (2 ^ P)

bits_dirty : (P live dirty lock : ℕ) → bits_below P live dirty lock ≡ true → dirty < 2 ^ P
bits_dirty P live dirty lock b =
    ltb-true _ _ (and_right (ltb live (2 ^ P)) (ltb dirty (2 ^ P)) (and_left (ltb live (2 ^ P) && ltb dirty (2 ^ P)) (ltb lock (2 ^ P)) b))

bits_lock : (P live dirty lock : ℕ) → bits_below P live dirty lock ≡ true → lock < 2 ^ P
bits_lock P live dirty lock b = ltb-true _ _ (and_right (ltb live (2 ^ P) && ltb dirty (2 ^ P)) (ltb lock (2 ^ P)) b)

-- ---- a sound cell, as the code judges it

module _ (rule P : ℕ) (h : rule ≤ 4) (x : Cell) where
  abbrev masks_ok : Bool
  masks_ok = masks_sound rule P (live_mask x) (dirty_mask x) (lock_mask x)

  abbrev copy_ok : ℕ → Bool
  copy_ok p = copy_sound rule (live_mask x) (copy_at x p) (current_value x) p

  -- the parts of the two tests, in their order
  abbrev bits : Bool
  bits = bits_below P (live_mask x) (dirty_mask x) (lock_mask x)

  abbrev unlocked : Bool
  unlocked = ltb 2 rule || eqb (lock_mask x) 0

  abbrev dirty_live : Bool
  dirty_live = within (dirty_mask x) (live_mask x)

  abbrev one_dirty_test : Bool
  one_dirty_test = ltb rule 1 || leb (ones (dirty_mask x)) 1

  abbrev locked_only : Bool
  locked_only = eqb (lock_mask x) 0 || within (live_mask x) (lock_mask x)

  abbrev one_lock_test : Bool
  one_lock_test = ltb rule 3 || leb (ones (lock_mask x)) 1 && locked_only

  abbrev dirty_locked : Bool
  dirty_locked = ltb rule 4 || within (dirty_mask x) (lock_mask x)

  abbrev blank : ℕ → Bool
  blank p = has_board (live_mask x) p || eqb (copy_at x p) 0

  abbrev fresh_copy : ℕ → Bool
  fresh_copy p = not (has_board (live_mask x) p) || eqb (copy_at x p) (current_value x)

  module _ (s : sound (rule_of rule) P x ≡ true) where
    met : (c : Condition) → from c ≤ rule → rule ≤ up_to c → meets P x c ≡ true
    met c l u = of_sound (rule_of rule) P x s c (asked rule h c l u)

    in_bits : bits ≡ true
    unfolding meets from up_to
    in_bits = met no_bit_at_p_or_above (omega arith) h

    sound_masks : masks_ok ≡ true
    unfolding masks_sound meets from up_to
    sound_masks =
        and_both (bits && unlocked && dirty_live && one_dirty_test && one_lock_test) dirty_locked
        (and_both (bits && unlocked && dirty_live && one_dirty_test) one_lock_test
        (and_both (bits && unlocked && dirty_live) one_dirty_test
        (and_both (bits && unlocked) dirty_live
        (and_both bits unlocked in_bits (only_from 2 rule (eqb (lock_mask x) 0) (λ l. met lock_mask_is_0 (omega arith) l)))
        (boards_within P (dirty_mask x) (bits_dirty P _ _ _ in_bits) (live_mask x) (met dirty_is_live (omega arith) h)))
        (only_from rule 1 (leb (ones (dirty_mask x)) 1) (λ l. met one_dirty l h)))
        (only_from rule 3 (leb (ones (lock_mask x)) 1 && locked_only) (λ l.
        and_both (leb (ones (lock_mask x)) 1) locked_only (met one_lock l h) (boards_alone P (lock_mask x) (bits_lock P _ _ _ in_bits) (live_mask x) (met locked_is_only l h)))))
        (only_from rule 4 (within (dirty_mask x) (lock_mask x)) (λ l. boards_within P (dirty_mask x) (bits_dirty P _ _ _ in_bits) (lock_mask x) (met dirty_is_locked l h)))

    sound_copy : (p : ℕ) → p < P → copy_ok p ≡ true
    unfolding copy_sound meets from up_to
    sound_copy p l =
        and_both (blank p) (ltb rule 2 || fresh_copy p)
        (board_at P blank (met not_live_holds_0 (omega arith) h) p l)
        (only_from rule 2 (fresh_copy p) (λ r. board_at P fresh_copy (met live_is_current r h) p l))

  parts_sound : masks_ok ≡ true → ((p : ℕ) → p < P → copy_ok p ≡ true) → sound (rule_of rule) P x ≡ true
  unfolding masks_sound copy_sound
  parts_sound m b = sound_of (rule_of rule) P x (λ c a. go c (asks_from rule h c a) (asks_up_to rule h c a))
    where
      m5 : (bits && unlocked && dirty_live && one_dirty_test && one_lock_test) ≡ true
      m5 = and_left (bits && unlocked && dirty_live && one_dirty_test && one_lock_test) dirty_locked m

      m4 : (bits && unlocked && dirty_live && one_dirty_test) ≡ true
      m4 = and_left (bits && unlocked && dirty_live && one_dirty_test) one_lock_test m5

      m3 : (bits && unlocked && dirty_live) ≡ true
      m3 = and_left (bits && unlocked && dirty_live) one_dirty_test m4

      m2 : (bits && unlocked) ≡ true
      m2 = and_left (bits && unlocked) dirty_live m3

      m1 : bits ≡ true
      m1 = and_left bits unlocked m2

      locks : 3 ≤ rule → (leb (ones (lock_mask x)) 1 && locked_only) ≡ true
      locks l = from_on rule 3 (leb (ones (lock_mask x)) 1 && locked_only) (and_right (bits && unlocked && dirty_live && one_dirty_test) one_lock_test m5) l

      go : (c : Condition) → from c ≤ rule → rule ≤ up_to c → meets P x c ≡ true
      go no_bit_at_p_or_above l u = unfold meets in m1
      go not_live_holds_0 l u = unfold meets in board_of P blank (λ p k. and_left (blank p) (ltb rule 2 || fresh_copy p) (b p k))
      go lock_mask_is_0 l u = unfold meets up_to in from_on 2 rule (eqb (lock_mask x) 0) (and_right bits unlocked m2) u
      go dirty_is_live l u = unfold meets in within_boards P (dirty_mask x) (bits_dirty P _ _ _ m1) (live_mask x) (and_right (bits && unlocked) dirty_live m3)
      go one_dirty l u = unfold meets from in from_on rule 1 (leb (ones (dirty_mask x)) 1) (and_right (bits && unlocked && dirty_live) one_dirty_test m4) l
      go live_is_current l u = unfold meets from in board_of P fresh_copy (λ p k. from_on rule 2 (fresh_copy p) (and_right (blank p) (ltb rule 2 || fresh_copy p) (b p k)) l)
      go one_lock l u = unfold meets from in and_left (leb (ones (lock_mask x)) 1) locked_only (locks l)
      go locked_is_only l u = unfold meets from in
          alone_boards P (lock_mask x) (bits_lock P _ _ _ m1) (live_mask x) (leb-true _ _ (and_left (leb (ones (lock_mask x)) 1) locked_only (locks l))) (and_right (leb (ones (lock_mask x)) 1) locked_only (locks l))
      go dirty_is_locked l u = unfold meets from in
          within_boards P (dirty_mask x) (bits_dirty P _ _ _ m1) (lock_mask x) (from_on rule 4 (within (dirty_mask x) (lock_mask x)) (and_right (bits && unlocked && dirty_live && one_dirty_test && one_lock_test) dirty_locked m) l)

-- ---- the same over the slices: the masks of a cell, and its current value

pub masks_below : (rule boards live dirty lock : ℕ) → masks_sound rule boards live dirty lock ≡ true → dirty < 2 ^ boards
unfolding masks_sound
masks_below rule boards live dirty lock e =
    bits_dirty boards live dirty lock (and_left a b (and_left (a && b) c (and_left (a && b && c) d (and_left (a && b && c && d) f (and_left (a && b && c && d && f) g e)))))
  where
    a : Bool
    a = bits_below boards live dirty lock

    b : Bool
    b = ltb 2 rule || eqb lock 0

    c : Bool
    c = within dirty live

    d : Bool
    d = ltb rule 1 || leb (ones dirty) 1

    f : Bool
    f = ltb rule 3 || leb (ones lock) 1 && (eqb lock 0 || within live lock)

    g : Bool
    g = ltb rule 4 || within dirty lock

module _ (rule boards cells cell : ℕ) (t : Table) (h : rule ≤ 4) (y : Ready boards cells cell t) (live dirty lock : ℕ) (at : MasksAt (t masks) cell live dirty lock) where
  abbrev here : Cell
  here = cell_of boards cells t cell

  same_masks : masks_ok rule boards h here ≡ masks_sound rule boards live dirty lock
  same_masks = rw (as_live boards cells cell t y live dirty lock at, as_dirty boards cells cell t y live dirty lock at, as_lock boards cells cell t y live dirty lock at)

  pub unsound_masks : masks_sound rule boards live dirty lock ≡ false → sound (rule_of rule) boards here ≡ false
  unsound_masks e = not_so _ (λ s. clash (sym same_masks ∙ sound_masks rule boards h here s) e)

  -- what the code asks of a board's copy
  abbrev pub passes : (now board : ℕ) → Bool
  passes now board = copy_sound rule live (get_or (t copies) (cell * boards + board) 0) now board

  module _ (q : masks_sound rule boards live dirty lock ≡ true) (now : ℕ) (z : now ≡ current_at boards cell dirty (t main) (t copies)) where
    same_board : (p : ℕ) → p < boards → copy_ok rule boards h here p ≡ passes now p
    same_board p l =
        rw (
          as_live boards cells cell t y live dirty lock at,
          copy_is boards cells cell t y p l,
          z ∙ sym (current_is boards cells cell t y live dirty lock at (masks_below rule boards live dirty lock q)),
        )

    pub unsound_copy : (p : ℕ) → p < boards → passes now p ≡ false → sound (rule_of rule) boards here ≡ false
    unsound_copy p l e = not_so _ (λ s. clash (sym (same_board p l) ∙ sound_copy rule boards h here s p l) e)

    pub all_boards : ((p : ℕ) → p < boards → passes now p ≡ true) → sound (rule_of rule) boards here ≡ true
    all_boards f = parts_sound rule boards h here (same_masks ∙ q) (λ p l. same_board p l ∙ f p l)

    -- every copy looked at
    pub by_copies : copies_sound rule boards cell live now (t copies) boards ≡ sound (rule_of rule) boards here
    by_copies = go (every_board boards (passes now)) refl
      where
        go : (b : Bool) → every_board boards (passes now) ≡ b → every_board boards (passes now) ≡ sound (rule_of rule) boards here
        go true e = e ∙ sym (all_boards (board_at boards (passes now) e))
        go false e = e ∙ sym (not_so _ (λ s. clash (board_of boards (passes now) (λ p l. sym (same_board p l) ∙ sound_copy rule boards h here s p l)) e))
