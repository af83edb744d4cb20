-- "Instances are numbered per object type, so zone 7 is never credential 7": an object is of a kind, and has an instance.
use Rattle.std.specs.Prelude.{ℕ}
use Rattle.model.specs.Numbers.{access_zone, access_point, access_rule, access_credential}
use Rattle.view.specs.declared.Object.{Object}
use Rattle.view.specs.declared.Object.TheVariants.{Zone, Point, Credential, Rights}

unfoldable pub kind_of : Object → ℕ
kind_of (Zone zone) = access_zone
kind_of (Point point) = access_point
kind_of (Credential credential) = access_credential
kind_of (Rights rights) = access_rule

unfoldable pub instance_of : Object → ℕ
instance_of (Zone zone) = zone.0
instance_of (Point point) = point.0
instance_of (Credential credential) = credential.0
instance_of (Rights rights) = rights.0
