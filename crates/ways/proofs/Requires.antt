-- What the test of a record's kind says. Assumes nothing.
use Rattle.std.proofs.Common.{◌≡◌, ℕ, true, refl, arith}
use Rattle.source.specs.declared.ImportKind.{ImportKind}
use Rattle.source.specs.declared.ImportKind.TheVariants.{Import, Require, DynamicImport, AtImport, UrlImport, NewUrl, HotAccept}
use Rattle.ways.specs.Targets.{is_require}

pub require_is : (kind : ImportKind) → is_require kind ≡ true → kind ≡ Require
require_is Import e = let z : ◌≡◌ {A = ℕ} 0 1 = cc in absurd (omega arith)
require_is Require e = refl
require_is DynamicImport e = let z : ◌≡◌ {A = ℕ} 0 1 = cc in absurd (omega arith)
require_is AtImport e = let z : ◌≡◌ {A = ℕ} 0 1 = cc in absurd (omega arith)
require_is UrlImport e = let z : ◌≡◌ {A = ℕ} 0 1 = cc in absurd (omega arith)
require_is NewUrl e = let z : ◌≡◌ {A = ℕ} 0 1 = cc in absurd (omega arith)
require_is HotAccept e = let z : ◌≡◌ {A = ℕ} 0 1 = cc in absurd (omega arith)
