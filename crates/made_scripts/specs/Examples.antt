-- Draws and scripts that are worked out.
use Rattle.std.specs.Prelude.{◌≡◌, ◌++◌, codes, refl}
use Rattle.std.specs.Fmt.{digits}
use Rattle.made_scripts.specs.Draws.{drawn, next_state, state_after}
use Rattle.made_scripts.specs.Scripts.{made}

-- from 0, the first two states, and a kind that is drawn with the second
first_state : state_after 0 1 ≡ 1442695040888963407
unfolding next_state
first_state = refl

second_state : state_after 0 2 ≡ 1876011003808476466
unfolding next_state
second_state = refl

first_kind : drawn 8 1876011003808476466 ≡ 0
unfolding drawn
first_kind = refl

smallest : made 0 1 1 ≡ codes "s0> CONNECT root FROM LOCAL\ns0> CREATE USER IF NOT EXISTS u137\n"
unfolding next_state drawn digits
smallest = refl

-- lines of the kinds that create, that grant and take, and that use and check
from_zero : made 0 3 8
    ≡ codes "s0> CONNECT root FROM LOCAL\ns1> CONNECT root FROM LOCAL\ns2> CONNECT root FROM LOCAL\n"
    ++ (codes "s2> CREATE USER IF NOT EXISTS u137\ns1> REVOKE DELETE ON d4.* FROM r25\ns0> GRANT r3 TO u82\n"
    ++ (codes "s0> REVOKE SELECT ON d2.* FROM r45\ns0> GRANT r33 TO u134\ns2> CHECK UPDATE ON d13.t\n"
    ++ codes "s0> CREATE ROLE IF NOT EXISTS r1\ns2> USE d17\n"))
unfolding next_state drawn digits
from_zero = refl

from_one : made 1 2 9
    ≡ codes "s0> CONNECT root FROM LOCAL\ns1> CONNECT root FROM LOCAL\ns0> CREATE ROLE IF NOT EXISTS r46\n"
    ++ (codes "s0> GRANT DELETE ON d10.* TO u102\ns1> GRANT DELETE ON d2.* TO u52\ns0> GRANT SELECT ON d10.* TO u95\n"
    ++ (codes "s0> REVOKE DELETE ON d17.* FROM r26\ns0> REVOKE SELECT ON d4.* FROM r22\ns1> CREATE USER IF NOT EXISTS u7\n"
    ++ codes "s0> GRANT INSERT ON *.* TO r44\ns0> GRANT UPDATE ON d16.* TO u189\n"))
unfolding next_state drawn digits
from_one = refl

-- the greatest number
from_most : made 18446744073709551615 4 1
    ≡ codes "s0> CONNECT root FROM LOCAL\ns1> CONNECT root FROM LOCAL\ns2> CONNECT root FROM LOCAL\n"
    ++ codes "s3> CONNECT root FROM LOCAL\ns0> CHECK INSERT ON d2.t\n"
unfolding next_state drawn digits
from_most = refl
