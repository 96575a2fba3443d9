-- A pace of the code, as the abstract store has it.
use Rattle.model.specs.Take as abstract
use Rattle.pace.specs.declared.limits.Pace.{Pace}

-- the two limits, without the proof that they are in order
abbrev pub pace_of : Pace → abstract.Pace
pace_of p = record { least = p.least; most = p.most }
