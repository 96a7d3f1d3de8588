-- What holds of an accepted value.
use Rattle.std.specs.Prelude.{◌<◌}
use Rattle.rawtags.specs.declared.pattern.Pattern.{Pattern}

-- places of a block
pub record PatternIn (p : Pattern) : Type 0 where
  pub red : p.red < 4
  pub green1 : p.green1 < 4
  pub green2 : p.green2 < 4
  pub blue : p.blue < 4
