-- The number of each refusal, its layer, and the layers' letters.
use Rattle.std.specs.Prelude.{ℕ, Some, None, Option}
use Rattle.terms.specs.declared.refusals.Layer.{Layer}
use Rattle.terms.specs.declared.refusals.Layer.TheVariants.{Text, Job, Finder, CoverMaker}
use Rattle.terms.specs.declared.refusals.Part.{Part}
use Rattle.terms.specs.declared.refusals.Part.TheVariants.{Finder as InFinder, CoverMaker as InMaker}
use Rattle.terms.specs.declared.refusals.Refusal.{Refusal}
use Rattle.terms.specs.declared.refusals.Refusal.TheVariants.{TextTooLong, WrongLetter, WrongFieldCount, MalformedField, TooManyVariables, NotFresh, Finished, ClauseTooLong, BadLiteral, ZeroWeight, NoSoftPlace, TotalNotHeld, NoClausePlace, TooShort, BadByte, UnknownSoft, EmptyCore, NoCorePlace, NothingKept}

abbrev pub number_of : Refusal → ℕ
number_of TextTooLong = 1
number_of WrongLetter = 2
number_of WrongFieldCount = 3
number_of MalformedField = 4
number_of TooManyVariables = 5
number_of NotFresh = 6
number_of Finished = 7
number_of ClauseTooLong = 8
number_of BadLiteral = 9
number_of ZeroWeight = 10
number_of (NoSoftPlace p) = 11
number_of TotalNotHeld = 12
number_of NoClausePlace = 13
number_of TooShort = 14
number_of BadByte = 15
number_of UnknownSoft = 16
number_of EmptyCore = 17
number_of NoCorePlace = 18
number_of NothingKept = 19

-- refusal 11 comes from the part that is full
abbrev pub full_layer : Part → Layer
full_layer InFinder = Finder
full_layer InMaker = CoverMaker

-- a refusal that no line of a session can meet has no layer
abbrev pub layer_of : Refusal → Option Layer
layer_of TextTooLong = Some Text
layer_of WrongLetter = Some Text
layer_of WrongFieldCount = Some Text
layer_of MalformedField = Some Text
layer_of TooManyVariables = Some Finder
layer_of NotFresh = Some Job
layer_of Finished = Some Job
layer_of ClauseTooLong = Some Finder
layer_of BadLiteral = Some Finder
layer_of ZeroWeight = Some CoverMaker
layer_of (NoSoftPlace p) = Some (full_layer p)
layer_of TotalNotHeld = Some CoverMaker
layer_of NoClausePlace = Some Finder
layer_of TooShort = None
layer_of BadByte = None
layer_of UnknownSoft = None
layer_of EmptyCore = None
layer_of NoCorePlace = Some CoverMaker
layer_of NothingKept = None

-- t, j, f and c
abbrev pub letter_of : Layer → ℕ
letter_of Text = 116
letter_of Job = 106
letter_of Finder = 102
letter_of CoverMaker = 99
