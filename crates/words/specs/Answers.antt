-- Answers. Document 01, Expected form: "Where an answer is an enum, a definition gives this paper's number and values for every one of its cases." The cases stand in the order in which they are judged.
use Rattle.std.specs.Prelude.{ℕ, Result, Ok, Err, ⊤}
use Rattle.words.specs.declared.Outcome.{Outcome}
use Rattle.words.specs.declared.answers.Values.{Values}
use Rattle.words.specs.declared.answers.Refused.{Refused}
use Rattle.words.specs.declared.answers.Refused.TheVariants.{WrongLength, Unsound, SeenTooMuch, WrongPoolSize, NoSuchSpace, WrongRights, WriteWithoutRead, WrongAccess, WrongSpan, AlreadyOpen, NotOpen, AlreadyMapped, NotMapped, RightLacking, TooFewFrames, NoNumberLeft, Malformed, NoCounterpart}
use Rattle.words.specs.Rows.{refusal, values}

-- the number of each refusal
abbrev pub number : Refused → ℕ
number WrongLength = 1
number Unsound = 2
number SeenTooMuch = 3
number WrongPoolSize = 4
number NoSuchSpace = 5
number WrongRights = 6
number WriteWithoutRead = 17
number WrongAccess = 7
number WrongSpan = 8
number AlreadyOpen = 9
number NotOpen = 10
number AlreadyMapped = 11
number NotMapped = 12
number RightLacking = 13
number TooFewFrames = 14
number NoNumberLeft = 15
number Malformed = 16
number NoCounterpart = 18

-- an accepted call's values, or "its number and zeros"
abbrev pub outcome : Result Values Refused → Outcome
outcome (Ok v) = values v.first v.second
outcome (Err r) = refusal (number r)

-- what a judgement finds: the number of the first refusal that applies, 0 where none does
abbrev pub judged : Result ⊤ Refused → ℕ
judged (Ok u) = 0
judged (Err r) = number r
