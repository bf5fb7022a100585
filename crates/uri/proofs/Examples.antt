-- RFC 3261's examples of section 19.1.4, equal and not equal, and what the readings add. Each by computation.
use mathlib.Core.Path.{◌≡◌, refl}
use mathlib.Core.Bool.{Bool, true, false}
use Prim.Native.String.{String}
use Rattle.laws.specs.Bytes.{bytes}
use Rattle.uri.specs.Alike.{alike}
use Rattle.uri.specs.All.{all_uri}

-- two texts are the same address
unfoldable are : String → String → Bool
are s t = alike (bytes s) (bytes t)

-- an escaped letter; host and parameters in either case
alice : are "sip:%61lice@atlanta.com;transport=TCP" "sip:alice@AtLanTa.CoM;Transport=tcp" ≡ true
unfolding all_uri are
alice = refl

-- an unknown parameter in one only
carol_new : are "sip:carol@chicago.com" "sip:carol@chicago.com;newparam=5" ≡ true
unfolding all_uri are
carol_new = refl

carol_on : are "sip:carol@chicago.com" "sip:carol@chicago.com;security=on" ≡ true
unfolding all_uri are
carol_on = refl

carol_both : are "sip:carol@chicago.com;newparam=5" "sip:carol@chicago.com;security=on" ≡ true
unfolding all_uri are
carol_both = refl

-- parameters in another order
biloxi :
    are "sip:biloxi.com;transport=tcp;method=REGISTER?to=sip:bob%40biloxi.com"
    "sip:biloxi.com;method=REGISTER;transport=tcp?to=sip:bob%40biloxi.com" ≡ true
unfolding all_uri are
biloxi = refl

-- headers in another order
project :
    are "sip:alice@atlanta.com?subject=project%20x&priority=urgent" "sip:alice@atlanta.com?priority=urgent&subject=project%20x"
    ≡ true
unfolding all_uri are
project = refl

-- a user in another case
not_ALICE : are "SIP:ALICE@AtLanTa.CoM;Transport=udp" "sip:alice@AtLanTa.CoM;Transport=UDP" ≡ false
unfolding all_uri are
not_ALICE = refl

-- a port in one only, though it is the default
not_5060 : are "sip:bob@biloxi.com" "sip:bob@biloxi.com:5060" ≡ false
unfolding all_uri are
not_5060 = refl

-- transport in one only, though it is the default
not_udp : are "sip:bob@biloxi.com" "sip:bob@biloxi.com;transport=udp" ≡ false
unfolding all_uri are
not_udp = refl

not_6000 : are "sip:bob@biloxi.com" "sip:bob@biloxi.com:6000;transport=tcp" ≡ false
unfolding all_uri are
not_6000 = refl

-- the same parameter with another value, though each equals the URI without it
not_off : are "sip:carol@chicago.com;security=on" "sip:carol@chicago.com;security=off" ≡ false
unfolding all_uri are
not_off = refl

carol_off : are "sip:carol@chicago.com" "sip:carol@chicago.com;security=off" ≡ true
unfolding all_uri are
carol_off = refl

-- a name, and the number that it stands for elsewhere
not_the_same_number : are "sip:bob@phone21.boxesbybob.com" "sip:bob@192.0.2.4" ≡ false
unfolding all_uri are
not_the_same_number = refl

-- the two schemes
not_sips : are "sip:bob@biloxi.com" "sips:bob@biloxi.com" ≡ false
unfolding all_uri are
not_sips = refl

-- a port as it is written
not_05060 : are "sip:b@h:5060" "sip:b@h:05060" ≡ false
unfolding all_uri are
not_05060 = refl

-- a user in one only, and an empty password against none
not_anyone : are "sip:b@h" "sip:h" ≡ false
unfolding all_uri are
not_anyone = refl

not_empty : are "sip:b@h" "sip:b:@h" ≡ false
unfolding all_uri are
not_empty = refl

not_PASSWORD : are "sip:b:w@h" "sip:b:W@h" ≡ false
unfolding all_uri are
not_PASSWORD = refl

-- an escape of a reserved byte is not the byte, but is the escape in the other case
not_semicolon : are "sip:a;b@h" "sip:a%3bb@h" ≡ false
unfolding all_uri are
not_semicolon = refl

semicolon : are "sip:a%3Bb@h" "sip:a%3bb@h" ≡ true
unfolding all_uri are
semicolon = refl

-- each of the five, in one only
not_user : are "sip:h" "sip:h;USER=phone" ≡ false
unfolding all_uri are
not_user = refl

not_ttl : are "sip:h" "sip:h;ttl=15" ≡ false
unfolding all_uri are
not_ttl = refl

not_method : are "sip:h" "sip:h;method=INVITE" ≡ false
unfolding all_uri are
not_method = refl

not_maddr : are "sip:h" "sip:h;%6daddr=239.255.255.1" ≡ false
unfolding all_uri are
not_maddr = refl

-- a header in one only
not_subject : are "sip:h" "sip:h?subject=" ≡ false
unfolding all_uri are
not_subject = refl

-- a name twice: each finds its like
twice : are "sip:h;x=1;x=2" "sip:h;X=2;X=1" ≡ true
unfolding all_uri are
twice = refl

not_twice : are "sip:h;x=1;x=2" "sip:h;x=2" ≡ false
unfolding all_uri are
not_twice = refl

-- why table addresses have no parameters: with them the relation does not carry on
not_carried :
    (are "sip:carol@chicago.com;security=on" "sip:carol@chicago.com" ≡ true)
    × ((are "sip:carol@chicago.com" "sip:carol@chicago.com;security=off" ≡ true)
    × (are "sip:carol@chicago.com;security=on" "sip:carol@chicago.com;security=off" ≡ false))
unfolding all_uri are
not_carried = (refl, (refl, refl))
