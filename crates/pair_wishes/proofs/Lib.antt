mod Mentions
