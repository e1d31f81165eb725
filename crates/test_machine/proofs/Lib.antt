mod Turning
mod Linked
mod Unlinked
mod OneHart
