use Rattle.std.proofs.Common.{refl, ◌∙◌, ap}
use Rattle.account_match.proofs.Fitting.{fits_as_text, fits_by}
use Rattle.account_match.specs.Fits.{like_client}
use Rattle.account_match.proofs.host_pattern.HostPattern.matches.Goals as goal

pub returns-in-Cidr : goal.returns-in-Cidr
returns-in-Cidr c = fits_by _ _ _ _ _ _ c.self.view_is c.self.invariant c.in-Cidr.is c.is_in_network.ensures

pub returns-in-Masked : goal.returns-in-Masked
returns-in-Masked c = fits_by _ _ _ _ _ _ c.self.view_is c.self.invariant c.in-Masked.is c.is_in_network-in-Masked.ensures

pub returns-in-Empty : goal.returns-in-Empty
returns-in-Empty c = fits_by _ _ _ _ _ _ c.self.view_is c.self.invariant c.in-Empty.is refl

pub returns-in-Exact : goal.returns-in-Exact
returns-in-Exact c =
    fits_as_text _ _ _ _ _ c.self.view_is c.self.invariant c.in-Exact.is
    (c.is_like_client.ensures ∙ ap (λ h. like_client h c.args.client.now) c.as_str.ensures.value)
