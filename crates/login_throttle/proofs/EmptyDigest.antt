-- The SHA-256 digest of no bytes, computed eight words and eight rounds at a time.
use Rattle.std.specs.Prelude.{◌≡◌, ℕ, suc, ◌+◌, List, [], ◌∷◌, ◌++◌, slice_index, replicate, take, refl}
use Rattle.std.proofs.Common.{ap, ◌∙◌}
use Rattle.acl_names.specs.Verifiers.{empty_verifier}
use Rattle.sha2.specs.Sha256.{add_state, compress, digest_bytes, first_words, hash_after, initial_hash_256, next_word, round, round_constants, rounds, schedule, sha256}

-- the one block of the empty message: its padding
abbrev block : List ℕ
block = 0x80 ∷ replicate 63 0

-- the words with one more
abbrev with_word : List ℕ → ℕ → List ℕ
with_word w n = w ++ next_word w (n + 16) ∷ []

one_word : (b w : List ℕ) (n : ℕ) → schedule b n ≡ w → schedule b (suc n) ≡ with_word w n
unfolding schedule
one_word b w n same = ap (λ w. with_word w n) same

abbrev with_two : List ℕ → ℕ → List ℕ
with_two w n = with_word (with_word w n) (suc n)

abbrev with_four : List ℕ → ℕ → List ℕ
with_four w n = with_two (with_two w n) (suc (suc n))

two_words : (b w : List ℕ) (n : ℕ) → schedule b n ≡ w → schedule b (suc (suc n)) ≡ with_two w n
two_words b w n same = one_word b (with_word w n) (suc n) (one_word b w n same)

four_words : (b w : List ℕ) (n : ℕ) → schedule b n ≡ w → schedule b (suc (suc (suc (suc n)))) ≡ with_four w n
four_words b w n same = two_words b (with_two w n) (suc (suc n)) (two_words b w n same)

-- the working variables after one more round
abbrev with_round : List ℕ → List ℕ → ℕ → List ℕ
with_round w v t = round v (slice_index round_constants t) (slice_index w t)

one_round : (h w v : List ℕ) (t : ℕ) → rounds h w t ≡ v → rounds h w (suc t) ≡ with_round w v t
unfolding rounds
one_round h w v t same = ap (λ v. with_round w v t) same

abbrev two_more : List ℕ → List ℕ → ℕ → List ℕ
two_more w v t = with_round w (with_round w v t) (suc t)

abbrev four_more : List ℕ → List ℕ → ℕ → List ℕ
four_more w v t = two_more w (two_more w v t) (suc (suc t))

two_rounds : (h w v : List ℕ) (t : ℕ) → rounds h w t ≡ v → rounds h w (suc (suc t)) ≡ two_more w v t
two_rounds h w v t same = one_round h w (with_round w v t) (suc t) (one_round h w v t same)

four_rounds : (h w v : List ℕ) (t : ℕ) → rounds h w t ≡ v → rounds h w (suc (suc (suc (suc t)))) ≡ four_more w v t
four_rounds h w v t same = two_rounds h w (two_more w v t) (suc (suc t)) (two_rounds h w v t same)

abbrev words : List ℕ
words =
    0x80000000 ∷ 0x00000000 ∷ 0x00000000 ∷ 0x00000000 ∷ 0x00000000 ∷ 0x00000000 ∷ 0x00000000 ∷ 0x00000000 ∷
    0x00000000 ∷ 0x00000000 ∷ 0x00000000 ∷ 0x00000000 ∷ 0x00000000 ∷ 0x00000000 ∷ 0x00000000 ∷ 0x00000000 ∷
    0x80000000 ∷ 0x00000000 ∷ 0x00205000 ∷ 0x00000000 ∷ 0x22000800 ∷ 0x00000000 ∷ 0x05089542 ∷ 0x80000000 ∷
    0x58080000 ∷ 0x0040a000 ∷ 0x00162505 ∷ 0x66001800 ∷ 0xd6222580 ∷ 0x14225508 ∷ 0xd645f95c ∷ 0xc9282000 ∷
    0xc3f10094 ∷ 0x284ca766 ∷ 0x06886dc6 ∷ 0xa37bf116 ∷ 0x717cbe96 ∷ 0xfec2d74a ∷ 0xa7b67f00 ∷ 0x811596a2 ∷
    0x98a6e768 ∷ 0x03b20c82 ∷ 0x5d1da7c9 ∷ 0xb156b935 ∷ 0xc3ddca11 ∷ 0x249c107f ∷ 0xc48d24ef ∷ 0x5de54c30 ∷
    0xdefece65 ∷ 0x2ca1480d ∷ 0x3c15332c ∷ 0x01cec9ad ∷ 0x160cccd0 ∷ 0x0bacda98 ∷ 0x361b8fe0 ∷ 0xd2320ba6 ∷
    0x029b7007 ∷ 0x7546587c ∷ 0x07f54f39 ∷ 0xf808ddc3 ∷ 0xdcca7608 ∷ 0x5e427188 ∷ 0x44bcec5d ∷ 0x3b5ec49b ∷ []

words_0 : schedule block 0 ≡ take 16 words
unfolding schedule first_words
words_0 = refl

words_4 : schedule block 4 ≡ take 20 words
words_4 = four_words block (take 16 words) 0 words_0

words_8 : schedule block 8 ≡ take 24 words
words_8 = four_words block (take 20 words) 4 words_4

words_12 : schedule block 12 ≡ take 28 words
words_12 = four_words block (take 24 words) 8 words_8

words_16 : schedule block 16 ≡ take 32 words
words_16 = four_words block (take 28 words) 12 words_12

words_20 : schedule block 20 ≡ take 36 words
words_20 = four_words block (take 32 words) 16 words_16

words_24 : schedule block 24 ≡ take 40 words
words_24 = four_words block (take 36 words) 20 words_20

words_28 : schedule block 28 ≡ take 44 words
words_28 = four_words block (take 40 words) 24 words_24

words_32 : schedule block 32 ≡ take 48 words
words_32 = four_words block (take 44 words) 28 words_28

words_36 : schedule block 36 ≡ take 52 words
words_36 = four_words block (take 48 words) 32 words_32

words_40 : schedule block 40 ≡ take 56 words
words_40 = four_words block (take 52 words) 36 words_36

words_44 : schedule block 44 ≡ take 60 words
words_44 = four_words block (take 56 words) 40 words_40

words_48 : schedule block 48 ≡ take 64 words
words_48 = four_words block (take 60 words) 44 words_44

rounds_0 : rounds initial_hash_256 words 0 ≡ initial_hash_256
unfolding rounds
rounds_0 = refl

abbrev state_4 : List ℕ
state_4 =
    0x4c23eacb ∷ 0xc4ac5526 ∷ 0x9ce564d0 ∷ 0x7c08884d ∷ 0x3037e1b5 ∷ 0x6fdb22fa ∷ 0x2001b256 ∷ 0x18c7e2a2 ∷ []

rounds_4 : rounds initial_hash_256 words 4 ≡ state_4
rounds_4 = four_rounds initial_hash_256 words initial_hash_256 0 rounds_0

abbrev state_8 : List ℕ
state_8 =
    0x7ad5b1b6 ∷ 0xf0205590 ∷ 0x292e3b42 ∷ 0x4366f730 ∷ 0x53f94dcb ∷ 0x82ede06f ∷ 0x4f6540fa ∷ 0xe7d0641e ∷ []

rounds_8 : rounds initial_hash_256 words 8 ≡ state_8
rounds_8 = four_rounds initial_hash_256 words state_4 4 rounds_4

abbrev state_12 : List ℕ
state_12 =
    0xf5434c40 ∷ 0x158bb921 ∷ 0xefe8bf51 ∷ 0xf52d63a5 ∷ 0xd7e07c92 ∷ 0xe23643ce ∷ 0x53072289 ∷ 0x7aafc618 ∷ []

rounds_12 : rounds initial_hash_256 words 12 ≡ state_12
rounds_12 = four_rounds initial_hash_256 words state_8 8 rounds_8

abbrev state_16 : List ℕ
state_16 =
    0xb40085b5 ∷ 0xb88afddb ∷ 0x45c013a7 ∷ 0x2102d2cd ∷ 0x5cb8e863 ∷ 0x1ccfac39 ∷ 0x2b427296 ∷ 0xcdfdfe52 ∷ []

rounds_16 : rounds initial_hash_256 words 16 ≡ state_16
rounds_16 = four_rounds initial_hash_256 words state_12 12 rounds_12

abbrev state_20 : List ℕ
state_20 =
    0x0a480908 ∷ 0x3067996a ∷ 0xdd999a2b ∷ 0x470d554a ∷ 0x900d27ac ∷ 0xd398dcea ∷ 0x608c93d3 ∷ 0x70d43aa7 ∷ []

rounds_20 : rounds initial_hash_256 words 20 ≡ state_20
rounds_20 = four_rounds initial_hash_256 words state_16 16 rounds_16

abbrev state_24 : List ℕ
state_24 =
    0x985bed55 ∷ 0x404d8054 ∷ 0x99a6cb19 ∷ 0x75c7f0d8 ∷ 0x2c2c028d ∷ 0xb1653710 ∷ 0xc287981e ∷ 0x39953ccd ∷ []

rounds_24 : rounds initial_hash_256 words 24 ≡ state_24
rounds_24 = four_rounds initial_hash_256 words state_20 20 rounds_20

abbrev state_28 : List ℕ
state_28 =
    0x6d8cc697 ∷ 0x2c8b2ab9 ∷ 0xc5b814ae ∷ 0x7af6d48d ∷ 0x66ed54fa ∷ 0x9f934283 ∷ 0xe57ac3f4 ∷ 0xf55f8c25 ∷ []

rounds_28 : rounds initial_hash_256 words 28 ≡ state_28
rounds_28 = four_rounds initial_hash_256 words state_24 24 rounds_24

abbrev state_32 : List ℕ
state_32 =
    0x11e7025f ∷ 0xa0bb0cdf ∷ 0x72d3a00d ∷ 0x64bc9e1c ∷ 0xbbd7846c ∷ 0x564a6626 ∷ 0xb04ab22d ∷ 0x95696b75 ∷ []

rounds_32 : rounds initial_hash_256 words 32 ≡ state_32
rounds_32 = four_rounds initial_hash_256 words state_28 28 rounds_28

abbrev state_36 : List ℕ
state_36 =
    0x641fe878 ∷ 0x44a181a7 ∷ 0xa141b695 ∷ 0xe390f3b6 ∷ 0x3a705ea9 ∷ 0x6973aac2 ∷ 0x0bc457df ∷ 0xccd25d8b ∷ []

rounds_36 : rounds initial_hash_256 words 36 ≡ state_36
rounds_36 = four_rounds initial_hash_256 words state_32 32 rounds_32

abbrev state_40 : List ℕ
state_40 =
    0x499911b1 ∷ 0x9e58e42f ∷ 0x56e3dc4e ∷ 0xa096535d ∷ 0x716bb025 ∷ 0x85a71424 ∷ 0xe807ea7f ∷ 0xfac06aed ∷ []

rounds_40 : rounds initial_hash_256 words 40 ≡ state_40
rounds_40 = four_rounds initial_hash_256 words state_36 36 rounds_36

abbrev state_44 : List ℕ
state_44 =
    0xe8e34752 ∷ 0xdbb545ab ∷ 0x2298f88e ∷ 0xfe86c833 ∷ 0x29426caa ∷ 0xe0403eb9 ∷ 0xf5c58ae9 ∷ 0x849879df ∷ []

rounds_44 : rounds initial_hash_256 words 44 ≡ state_44
rounds_44 = four_rounds initial_hash_256 words state_40 40 rounds_40

abbrev state_48 : List ℕ
state_48 =
    0x365a34cd ∷ 0x54982d6c ∷ 0x32fa442b ∷ 0xa40972d4 ∷ 0xcbb3f8eb ∷ 0x8a6a82b2 ∷ 0xd285c679 ∷ 0xaa2c1810 ∷ []

rounds_48 : rounds initial_hash_256 words 48 ≡ state_48
rounds_48 = four_rounds initial_hash_256 words state_44 44 rounds_44

abbrev state_52 : List ℕ
state_52 =
    0xd55e06c2 ∷ 0xc163cb21 ∷ 0x9798f5ed ∷ 0x62a82a5e ∷ 0xa194d14f ∷ 0x36068bde ∷ 0xe90aa770 ∷ 0x4cab6d8a ∷ []

rounds_52 : rounds initial_hash_256 words 52 ≡ state_52
rounds_52 = four_rounds initial_hash_256 words state_48 48 rounds_48

abbrev state_56 : List ℕ
state_56 =
    0x01638014 ∷ 0x2caf58ca ∷ 0x3a0e9477 ∷ 0xb1b29c90 ∷ 0xadf94e0a ∷ 0xe588e598 ∷ 0xfd99936e ∷ 0x43a5def8 ∷ []

rounds_56 : rounds initial_hash_256 words 56 ≡ state_56
rounds_56 = four_rounds initial_hash_256 words state_52 52 rounds_52

abbrev state_60 : List ℕ
state_60 =
    0x04441c0e ∷ 0xe923abc6 ∷ 0xe7ec45bc ∷ 0x7ec75212 ∷ 0xaaefa044 ∷ 0x08e0e6ea ∷ 0xe2a91edc ∷ 0x7951a330 ∷ []

rounds_60 : rounds initial_hash_256 words 60 ≡ state_60
rounds_60 = four_rounds initial_hash_256 words state_56 56 rounds_56

abbrev state_64 : List ℕ
state_64 =
    0x79a6dddb ∷ 0xdd946d8f ∷ 0x5e8d0156 ∷ 0xf41fc3ea ∷ 0xd69fef65 ∷ 0xc9962ac0 ∷ 0x8511bf70 ∷ 0x1c71eb3c ∷ []

rounds_64 : rounds initial_hash_256 words 64 ≡ state_64
rounds_64 = four_rounds initial_hash_256 words state_60 60 rounds_60

compressed : (h b w v : List ℕ) → schedule b 48 ≡ w → rounds h w 64 ≡ v → compress h b ≡ add_state h v
unfolding compress
compressed h b w v words state = ap (λ w. add_state h (rounds h w 64)) words ∙ ap (add_state h) state

hashed : hash_after initial_hash_256 block 1 ≡ add_state initial_hash_256 state_64
unfolding hash_after
hashed = compressed initial_hash_256 block words state_64 words_48 rounds_64

digest_is : digest_bytes (add_state initial_hash_256 state_64) 8 ≡ empty_verifier.0
unfolding digest_bytes
digest_is = refl

pub empty_digest : sha256 [] ≡ empty_verifier.0
unfolding sha256
empty_digest = ap (λ h. digest_bytes h 8) hashed ∙ digest_is
