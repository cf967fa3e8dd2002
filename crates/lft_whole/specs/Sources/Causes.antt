-- Why files have no program: a number and a name for scripts, and what is said of it.
use Rattle.std.specs.Prelude.{ℕ, List, [], ◌∷◌, codes}
use Rattle.lft_whole.specs.declared.sources.why.Why.{Why}
use Rattle.lft_whole.specs.declared.sources.why.Why.TheVariants as why

-- The names of the numbers, from 1 on.
abbrev pub names : List (List ℕ)
names = codes "Read" ∷ codes "BadText" ∷ codes "Unexpected" ∷ codes "NoMain" ∷ codes "TwoMains" ∷ codes "NoReactor" ∷ codes "UnknownName" ∷ codes "DuplicateName" ∷ codes "Recursive" ∷ codes "Width" ∷ codes "Time" ∷ codes "Mode" ∷ codes "PhysicalConnection" ∷ codes "Spacing" ∷ codes "Mutation" ∷ codes "Watchdog" ∷ codes "Decentralized" ∷ codes "Package" ∷ codes "Missing" ∷ codes "NoTrigger" ∷ codes "TooMany" ∷ []

-- The number of each cause.
abbrev pub number_of : Why → ℕ
number_of why.NotRead = 1
number_of why.NotText = 2
number_of why.Unexpected = 3
number_of why.NoMain = 4
number_of why.TwoMains = 5
number_of why.NoReactor = 6
number_of why.NotImported = 6
number_of why.UnknownName = 7
number_of why.UnknownInstance = 7
number_of why.UnknownPort = 7
number_of why.UnknownParameter = 7
number_of why.GivesNoParameter = 7
number_of why.TwoNames = 8
number_of why.TwoReactors = 8
number_of why.GivenTwice = 8
number_of why.ContainsItself = 9
number_of why.ExtendsItself = 9
number_of why.WidthByCode = 10
number_of why.OpenWidth = 10
number_of why.WidthOfItself = 10
number_of why.NegativeWidth = 10
number_of why.WidthByIndex = 10
number_of why.NoWholeNumber = 10
number_of why.NoTime = 11
number_of why.TimeTooLong = 11
number_of why.NotOfTypeTime = 11
number_of why.StandsForTime = 11
number_of why.DefaultByName = 11
number_of why.Mode = 12
number_of why.PhysicalConnection = 13
number_of why.Spacing = 14
number_of why.Mutation = 15
number_of why.Watchdog = 16
number_of why.Decentralized = 17
number_of why.Package = 18
number_of why.MissingNumber = 19
number_of why.MissingTime = 19
number_of why.MissingInMain = 19
number_of why.NoTrigger = 20
number_of why.TooManyInstances = 21
number_of why.TooManyPorts = 21
number_of why.TooManyConnections = 21
number_of why.TooManyActions = 21
number_of why.TooManyTimers = 21
number_of why.TooManyReactions = 21
number_of why.TooMuch = 21

-- What is said of each, and what to write in its place.
abbrev pub sentence_of : Why → List ℕ
sentence_of why.NotRead = codes "The file can't be read. Correct the path."
sentence_of why.NotText = codes "This begins nothing that Lingua Franca has, or isn't closed."
sentence_of why.Unexpected = codes "This can't stand here."
sentence_of why.NoMain = codes "The file has no main reactor. Name the file that has it."
sentence_of why.TwoMains = codes "The file has two main reactors."
sentence_of why.NoReactor = codes "There is no reactor of this name in the file, or imported by it."
sentence_of why.NotImported = codes "The imported file has no reactor of this name."
sentence_of why.UnknownName = codes "The reactor has nothing of this name."
sentence_of why.UnknownInstance = codes "The reactor has no instance of this name."
sentence_of why.UnknownPort = codes "The instance has no port of this name."
sentence_of why.UnknownParameter = codes "The reactor has no parameter of this name."
sentence_of why.GivesNoParameter = codes "The reactor of the instance has no parameter of this name."
sentence_of why.TwoNames = codes "The reactor has two things of this name, with those of its bases."
sentence_of why.TwoReactors = codes "The file has two reactors of this name."
sentence_of why.GivenTwice = codes "The parameter is given twice."
sentence_of why.ContainsItself = codes "By this instance the reactor contains itself. Write a bank in its place."
sentence_of why.ExtendsItself = codes "The reactor extends itself."
sentence_of why.WidthByCode = codes "A width by code can't be known here. Write the number, or a parameter."
sentence_of why.OpenWidth = codes "A width that is left open can't be known here. Write the number."
sentence_of why.WidthOfItself = codes "This width depends on itself. Write the number."
sentence_of why.NegativeWidth = codes "The parameter is below 0 here, and no width."
sentence_of why.WidthByIndex = codes "A width in this reactor depends on bank_index, so the members of the bank differ. Write them as instances of several reactors."
sentence_of why.NoWholeNumber = codes "This decides a width, and isn't a whole number or a parameter. Write the number."
sentence_of why.NoTime = codes "This time can't be known here. A time is a whole number with a unit, 0, or a parameter of type time."
sentence_of why.TimeTooLong = codes "This time is longer than 10^18 nanoseconds, which is more than is read."
sentence_of why.NotOfTypeTime = codes "The parameter isn't of type time."
sentence_of why.StandsForTime = codes "The parameter stands for a time, and isn't of type time."
sentence_of why.DefaultByName = codes "A default can't be a parameter. Write the time."
sentence_of why.Mode = codes "A mode decides which reactions run, and `lftrace` knows none. No program without modes is equivalent."
sentence_of why.PhysicalConnection = codes "A physical connection gives its events tags by a clock. Write a reactor with a physical action in its place, whose events stand in the external table."
sentence_of why.Spacing = codes "A least spacing of a logical action moves or drops events, and `lftrace` knows none. Leave it out where it never acts."
sentence_of why.Mutation = codes "A mutation changes the program while it runs. No program without mutations is equivalent."
sentence_of why.Watchdog = codes "A watchdog expires by a clock. Write a physical action of its name in its place. Its expiries are then events of the external table."
sentence_of why.Decentralized = codes "With decentralized coordination a message may be handled after its tag, and `lftrace` knows no such runs. Write `coordination: centralized`."
sentence_of why.Package = codes "A package isn't looked up. Import its file by its path."
sentence_of why.MissingNumber = codes "A parameter decides a width, and has neither a default nor a value. Give it."
sentence_of why.MissingTime = codes "A parameter stands for a time, and has neither a default nor a value here. Give it."
sentence_of why.MissingInMain = codes "The parameter of the main reactor has no default. Write one."
sentence_of why.NoTrigger = codes "The reaction has no trigger."
sentence_of why.TooManyInstances = codes "The program has more than 10000 instances. Write smaller widths."
sentence_of why.TooManyPorts = codes "The program has more than 100000 ports. Write smaller widths."
sentence_of why.TooManyConnections = codes "The program has more than 100000 connections. Write smaller widths."
sentence_of why.TooManyActions = codes "The program has more than 100000 actions. Write smaller widths."
sentence_of why.TooManyTimers = codes "The program has more than 100000 timers. Write smaller widths."
sentence_of why.TooManyReactions = codes "The program has more than 10000 reactions. Write smaller widths."
sentence_of why.TooMuch = codes "The reactors with all that they inherit, in all their settings, are more than is listed."
