-- Document 01's "Numbered replies": the number of each, and the answer that a result stands for. Assumes nothing.
use Rattle.std.specs.Prelude.{◌≡◌, ◌<◌, ℕ, Result, Ok, Err}
use Rattle.protocol.specs.declared.Answer.{Answer}
use Rattle.protocol.specs.declared.Refused.{Refused}
use Rattle.protocol.specs.declared.Refused.TheVariants.{BadSizes, BadRule, Malformed, Missing, OffBoard, NoSuchCell, NotSound}
use Rattle.protocol.specs.declared.Refused.TheVariants.{NotLive, IsDirty, NotDirty, DirtyElsewhere, AnotherCopy, LockBars, LockNotHeld, NotCurrent, StillLive}
use Rattle.protocol.specs.declared.Refused.TheVariants.{WrongMark, WrongVersion, WrongLength, NoRoom}
use Rattle.protocol.specs.declared.Rule.{Rule}
use Rattle.protocol.specs.Names.{rule_number, last_rule}

abbrev pub reply_number : Refused → ℕ
reply_number BadSizes = 1
reply_number BadRule = 2
reply_number Malformed = 3
reply_number Missing = 4
reply_number OffBoard = 5
reply_number NoSuchCell = 6
reply_number NotSound = 7
reply_number NotLive = 8
reply_number IsDirty = 9
reply_number NotDirty = 10
reply_number DirtyElsewhere = 11
reply_number AnotherCopy = 12
reply_number LockBars = 13
reply_number LockNotHeld = 14
reply_number NotCurrent = 15
reply_number StillLive = 16
reply_number WrongMark = 17
reply_number WrongVersion = 18
reply_number WrongLength = 19
reply_number NoRoom = 20

-- "An answer is a number and a value": of an accepted call the value is told, and a refusal's is 0
abbrev pub answer_with : {A : Type 0} → (value : A → ℕ) → Result A Refused → Answer
answer_with value (Ok a) = record { number = 0; value = value a }
answer_with value (Err e) = record { number = reply_number e; value = 0 }

-- the answer to an action
abbrev pub answer_of : Result ℕ Refused → Answer
answer_of = answer_with (λ v. v)

-- the answer of a call that tells no value
abbrev pub done_of : {A : Type 0} → Result A Refused → Answer
done_of = answer_with (λ a. 0)

-- the number of a reply: "0 is accepted"
abbrev pub number_of_reply : {A : Type 0} → Result A Refused → ℕ
number_of_reply r = (done_of r).number

-- a rule's number is read as that rule, and one above the last is refused with 2
abbrev pub Ruled : (number : ℕ) → Result Rule Refused → Type 0
Ruled number (Ok rule) = rule_number rule ≡ number
Ruled number (Err e) = (e ≡ BadRule) × (last_rule < number)
