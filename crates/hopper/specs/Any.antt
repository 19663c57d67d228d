-- What a vessel of any of the three kinds means.
use Rattle.game.specs.Vessel.{Hopper, Keeps, lip, closed, drawn}
use Rattle.game.proofs.Vessels.{vessels_keep_rules}
use Rattle.hopper.specs.declared.any.AnyVessel.{AnyVessel}
use Rattle.hopper.specs.declared.any.AnyVessel.TheVariants.{OfLip, OfClosed, OfDrawn}

-- the hopper of a vessel of any kind is that of its kind
abbrev pub any_hopper : AnyVessel → Hopper
any_hopper (OfLip v) = lip v.top.litres
any_hopper (OfClosed v) = closed v.top.litres
any_hopper (OfDrawn v) = drawn v.top.litres v.draw

-- it keeps the rules of a vessel
pub any_keeps : (v : AnyVessel) → Keeps (any_hopper v)
any_keeps (OfLip v) = (vessels_keep_rules v.top.litres 0 v.top.fits).lip_keeps
any_keeps (OfClosed v) = (vessels_keep_rules v.top.litres 0 v.top.fits).closed_keeps
any_keeps (OfDrawn v) = (vessels_keep_rules v.top.litres v.draw v.top.fits).drawn_keeps
